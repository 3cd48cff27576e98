-- Goals that may be used as lemmas of another one.
use Rattle.std.specs.Prelude.{ℕ, List, [], Contains}
use Rattle.spec_core.specs.declared.records.Goal.{Goal}
use Rattle.spec_core.specs.declared.records.Spec.{Spec}
use Rattle.spec_order.specs.Orders.{above_of}
use Rattle.clause_core.specs.declared.reports.Claim.{Claim}
use Rattle.acceptance.specs.Accepting.{ClaimsAreAccepted}
use Rattle.acceptance.specs.Claims.{IsClaimed, ProvedBefore}

-- accepted claims, of which none is on the goal, prove the goals of these numbers
pub record AreLemmas (steps : ℕ) (spec : Spec) (goal : Goal) (lemmas : List ℕ) : Type 0 where
  pub before : List Claim
  pub accepted : ClaimsAreAccepted (above_of spec) spec steps [] before
  pub unclaimed : IsClaimed goal.name before → ⊥
  pub proved : (number : ℕ) → Contains lemmas number → ProvedBefore spec before number
