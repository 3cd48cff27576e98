-- The goals that claims are on, and those that they prove.
use Rattle.std.specs.Prelude.{◌≡◌, ◌⊎◌, ℕ, List, [], ◌∷◌, Some, slice_get}
use Rattle.spec_core.specs.declared.records.Goal.{Goal}
use Rattle.spec_core.specs.declared.records.Spec.{Spec}
use Rattle.clause_core.specs.declared.reports.Claim.{Claim}
use Rattle.clause_core.specs.declared.reports.Outcome.{Outcome}
use Rattle.clause_core.specs.declared.reports.Outcome.TheVariants.{Proved, Refuted, Open}

-- some claim of the list is on the goal of this name
abbrev pub IsClaimed : List ℕ → List Claim → Type 0
IsClaimed name [] = ⊥
IsClaimed name (claim ∷ claims) = (claim.goal ≡ name) ⊎ IsClaimed name claims

abbrev pub SaysProved : Outcome → Type 0
SaysProved (Proved block) = Unit {0}
SaysProved (Refuted index values) = ⊥
SaysProved (Open budget) = ⊥

-- some claim of the list is that the goal of this name is proved
abbrev pub IsProvedBy : List ℕ → List Claim → Type 0
IsProvedBy name [] = ⊥
IsProvedBy name (claim ∷ claims) =
    ((claim.goal ≡ name) × SaysProved claim.outcome) ⊎ IsProvedBy name claims

module _ (spec : Spec) where
  -- the goal is one of the specification's, and has this name
  abbrev pub IsGoalNamed : List ℕ → Goal → Type 0
  IsGoalNamed name goal =
      (number : ℕ) × (slice_get spec.goals number ≡ Some goal) × (goal.name ≡ name)

  -- the goals that may be used after these claims, by their numbers: those that they prove
  abbrev pub ProvedBefore : List Claim → ℕ → Type 0
  ProvedBefore before number =
      (goal : Goal) × (slice_get spec.goals number ≡ Some goal) × IsProvedBy goal.name before
