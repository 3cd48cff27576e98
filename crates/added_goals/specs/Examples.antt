-- What the definitions say of naturals with addition, where the goals are
-- same: plus(x, y) = plus(x, x) and unit: plus(x, zero) = x.
use Rattle.std.specs.Prelude.{[], ◌∷◌, codes}
use Rattle.spec_core.specs.declared.records.Goal.{Goal}
use Rattle.spec_core.specs.declared.records.Spec.{Spec}
use Rattle.spec_core.specs.Naturals.{naturals, same_goal, unit_goal, plus_zero_rule}
use Rattle.added_goals.specs.Additions.{AddsGoals, AreKept}

-- the goal unit under another name
abbrev pub again_goal : Goal
again_goal = record unit_goal { name = codes "again" }

-- naturals with a further goal between the two others
abbrev pub more_naturals : Spec
more_naturals = record naturals { goals = same_goal ∷ again_goal ∷ unit_goal ∷ [] }

pub record WorkedExamples : Type 0 where
  -- a specification is itself with nothing added, and the longer one is it with a further goal
  pub nothing_added : AddsGoals naturals naturals
  pub one_added : AddsGoals naturals more_naturals
  -- a goal may be added to none, and none is dropped
  pub first : AreKept [] (unit_goal ∷ [])
  pub dropped : ¬ (AddsGoals more_naturals naturals)
  -- goals stay in their order
  pub exchanged : ¬ (AreKept (same_goal ∷ unit_goal ∷ []) (unit_goal ∷ same_goal ∷ []))
  -- a goal under another name is another goal
  pub renamed : ¬ (AreKept (unit_goal ∷ []) (again_goal ∷ []))
  -- a rule may not be left out, even if the goals stay
  pub other_rules : ¬ (AddsGoals naturals (record naturals { rules = plus_zero_rule ∷ [] }))
