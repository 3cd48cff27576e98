-- The goals that claims are on, by their numbers.
use Rattle.std.specs.Prelude.{◌≡◌, ◌↔◌, ℕ, List, Some, false, Contains, IsTrue, length, slice_get, slice_index_or}
use Rattle.spec_core.specs.declared.records.Goal.{Goal}
use Rattle.spec_core.specs.declared.records.Spec.{Spec}
use Rattle.clause_core.specs.declared.reports.Claim.{Claim}
use Rattle.acceptance.specs.Claims.{IsClaimed, ProvedBefore}
use Rattle.claimed_goals.specs.declared.goals.ClaimedGoals.{ClaimedGoals}

module _ (spec : Spec) where
  -- the goal of this name has this number
  abbrev pub IsNumberOf : List ℕ → ℕ → Type 0
  IsNumberOf name number =
      (goal : Goal) × (slice_get spec.goals number ≡ Some goal) × (goal.name ≡ name)

  -- the numbers are those of the goals that the claims prove
  abbrev pub AreProved : List Claim → List ℕ → Type 0
  AreProved before numbers = (k : ℕ) → Contains numbers k ↔ ProvedBefore spec before k

  -- the flag of each goal says whether a claim is on it, and the proved goals are those of the claims
  pub record Tracks (before : List Claim) (goals : ClaimedGoals) : Type 0 where
    pub long : length goals.claimed.items ≡ length spec.goals
    pub claimed :
        (k : ℕ) (goal : Goal) → slice_get spec.goals k ≡ Some goal →
        IsTrue (slice_index_or goals.claimed.items k false) ↔ IsClaimed goal.name before
    pub proved : AreProved before goals.proved.items
