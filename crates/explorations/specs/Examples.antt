-- What the definitions say of claims on naturals with addition, where the goals are
-- same: plus(x, y) = plus(x, x) and unit: plus(x, zero) = x.
use Rattle.std.specs.Prelude.{[], ◌∷◌}
use Rattle.spec_core.specs.Naturals.{same_goal, unit_goal}
use Rattle.acceptance.specs.Examples.{leaves_open, proves_unit, unit_steps}
use Rattle.explorations.specs.Proved.{FurtherAreProved, StayProved}

pub record WorkedExamples : Type 0 where
  -- a further goal has to be proved, and an old one may stay open
  pub further :
      FurtherAreProved (same_goal ∷ []) (unit_goal ∷ same_goal ∷ [])
      (proves_unit unit_steps ∷ leaves_open ∷ [])
  pub not_proved :
      ¬ (FurtherAreProved (unit_goal ∷ []) (unit_goal ∷ same_goal ∷ [])
      (proves_unit unit_steps ∷ leaves_open ∷ []))
  pub not_claimed : ¬ (FurtherAreProved (same_goal ∷ []) (unit_goal ∷ same_goal ∷ []) [])
  -- a goal that was proved stays so, and one that was open may go
  pub stays :
      StayProved (leaves_open ∷ proves_unit unit_steps ∷ []) (proves_unit unit_steps ∷ [])
  pub lost : ¬ (StayProved (proves_unit unit_steps ∷ []) (leaves_open ∷ []))
