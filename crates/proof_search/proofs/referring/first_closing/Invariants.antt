use Rattle.proof_search.specs.Referring.{target_of, closing_pair}
use Rattle.routine_proof.specs.Candidates.{Gives}
use Rattle.proof_search.specs.Taking.{SaysAt}
use Rattle.proof_search.proofs.Walking.{Passed}
use Rattle.proof_search.proofs.referring.first_closing.Given as goal

abbrev pub invariant-loop-index : goal.invariant-loop-index
invariant-loop-index g l =
    Passed (Gives (SaysAt (g.O.TermOrder.above l.order) l.at)) l.equations
    (closing_pair (target_of l.fn.referral) l.fn.clause l.by.equation.now) l.index
