use Rattle.std.proofs.Common.{refl}
use Rattle.refuter.specs.Counts.{values_of_size, number_of_size}
use Rattle.refuter.proofs.laws.worked_examples.Goals as goal

pub returns : goal.returns
unfolding values_of_size number_of_size
returns c = record {
  naturals = refl;
  endless = refl;
  trees = refl;
  capped_trees = refl;
  no_trees = refl;
  trees_of_five = refl;
  trees_of_four = refl;
}
