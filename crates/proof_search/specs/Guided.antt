-- What the search for a routine proof answers.
use Rattle.std.specs.Prelude.{ℕ, List, Option, Some, None, Contains}
use Rattle.term_core.specs.Tree.{Tree}
use Rattle.spec_core.specs.declared.records.Goal.{Goal}
use Rattle.spec_core.specs.declared.records.Spec.{Spec}
use Rattle.clause_core.specs.declared.reports.Claim.{Claim}
use Rattle.clause_core.specs.declared.reports.Outcome.TheVariants.{Proved}
use Rattle.clause_core.specs.declared.steps.Block.{Block as BlockOf}
use Rattle.clause_core.specs.declared.steps.Step.{Step}
use Rattle.acceptance.specs.Accepting.{ClaimIsAccepted}
use Rattle.acceptance.specs.Claims.{IsClaimed, ProvedBefore}
use Rattle.proof_search.specs.declared.answers.Guided.{Guided}
use Rattle.proof_search.specs.declared.answers.Guided.TheVariants.{Block, Unfinished}

-- the steps of the block that is found
abbrev pub steps_in : Guided → Option (List Step)
steps_in (Block block) = Some block.steps
steps_in Unfinished = None

-- the claim that the block proves the goal
abbrev pub proved_by : Goal → BlockOf → Claim
proved_by goal block = record { goal = goal.name; outcome = Proved block }

-- the claim that the block proves the goal is accepted after any claims that prove the lemmas and of
-- which none is on the goal
abbrev pub IsAcceptedAfter :
    (Tree → Tree → Type 0) → Spec → List ℕ → Goal → Guided → Type 0
IsAcceptedAfter above spec lemmas goal (Block block) =
    (steps : ℕ) (before : List Claim) →
    ((number : ℕ) → Contains lemmas number → ProvedBefore spec before number) →
    (IsClaimed goal.name before → ⊥) →
    ClaimIsAccepted above spec steps before (proved_by goal block)
IsAcceptedAfter above spec lemmas goal Unfinished = Unit {0}
