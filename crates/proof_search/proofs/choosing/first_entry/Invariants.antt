use Rattle.proof_search.specs.Chosen.{all_entries, candidates_of}
use Rattle.routine_proof.specs.Candidates.{Gives}
use Rattle.proof_search.specs.Taking.{SaysAt}
use Rattle.proof_search.proofs.Walking.{Passed}
use Rattle.proof_search.proofs.choosing.first_entry.Given as goal

abbrev pub invariant-loop-entry : goal.invariant-loop-entry
invariant-loop-entry g l =
    Passed (Gives (SaysAt (g.O.TermOrder.above l.order) l.at)) all_entries
    (candidates_of l.at) l.entry-index
