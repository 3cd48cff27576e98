use Rattle.std.proofs.Common.{refl, arith, inl, inr}
use Rattle.clause_core.proofs.SmallClauses.{sorted_sum, untidied, swapped, rewritten, greater}
use Rattle.clause_core.proofs.laws.clause_examples.Goals as goal

pub returns : goal.returns
returns c = record {
  is_sorted = sorted_sum;
  is_tidied = (1, (0, refl, (1, inr (refl, refl), refl)), (1, inl (omega arith, refl), refl));
  size = refl;
  depth = refl;
  is_within = record { equations = omega arith; depth = omega arith; size = omega arith };
  drops_others = refl;
  premises_first = refl;
  is_not_tidied = untidied;
  of_goal = refl;
  instance_of = refl;
  swapped = swapped;
  rewritten = rewritten;
  greater = greater;
}
