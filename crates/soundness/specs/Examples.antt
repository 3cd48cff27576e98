-- What soundness says of goals on naturals with addition.
use Rattle.std.specs.Prelude.{[], ◌∷◌}
use Rattle.spec_core.specs.Truth.{GoalFails, GoalIsTrue}
use Rattle.spec_core.specs.Naturals.{naturals, same_goal, unit_goal, zero_term, succ_term}

pub record WorkedExamples : Type 0 where
  -- plus(x, zero) = x is true of all naturals, however large, by the report that proves it
  pub unit_is_true : GoalIsTrue naturals unit_goal
  -- plus(x, y) = plus(x, x) fails at x = zero, y = succ(zero), by the report that refutes it
  pub same_fails : GoalFails naturals (zero_term ∷ succ_term zero_term ∷ []) same_goal
