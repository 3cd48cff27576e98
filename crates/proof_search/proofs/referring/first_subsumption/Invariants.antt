use Rattle.proof_search.specs.Chosen.{subsumptions_by}
use Rattle.routine_proof.specs.Candidates.{Gives}
use Rattle.proof_search.specs.Taking.{SaysAt}
use Rattle.proof_search.proofs.Walking.{Passed}
use Rattle.proof_search.proofs.referring.first_subsumption.Given as goal

abbrev pub invariant-loop-number : goal.invariant-loop-number
invariant-loop-number g l =
    Passed (Gives (SaysAt (g.O.TermOrder.above l.order) l.at)) l.number-items
    (subsumptions_by l.at) l.number-index
