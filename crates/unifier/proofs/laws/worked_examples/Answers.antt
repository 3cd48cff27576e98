use Rattle.std.proofs.Common.{refl}
use Rattle.unifier.proofs.SampleUnifiers.{not_general, general, relevant, not_relevant, sums, clash, occurs, too_large}
use Rattle.unifier.proofs.SampleUnifiers.{not_too_large}
use Rattle.unifier.proofs.laws.worked_examples.Goals as goal

pub returns : goal.returns
returns c = record {
  unified = refl;
  not_general = not_general;
  general = general;
  relevant = relevant;
  not_relevant = not_relevant;
  sums = sums;
  clash = clash;
  occurs = occurs;
  shifted_sum = refl;
  too_large = too_large;
  not_too_large = not_too_large;
}
