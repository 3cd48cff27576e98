use Rattle.std.proofs.Common.{◌-◌, length}
use Rattle.clause_places.specs.Spots.{spots}
use Rattle.proof_search.specs.Referring.{target_of, rewritings_at}
use Rattle.routine_proof.specs.Candidates.{Gives}
use Rattle.proof_search.specs.Taking.{SaysAt}
use Rattle.proof_search.proofs.Walking.{Passed}
use Rattle.proof_search.proofs.rewriting.first_rewriting.Given as goal

abbrev pub invariant-spots : goal.invariant-spots
invariant-spots g l =
    Passed (Gives (SaysAt (g.O.TermOrder.above l.order) l.at)) (spots l.at.here.now)
    (rewritings_at (target_of l.fn.referral) l.fn.clause) l.index

abbrev pub decreases-spots : goal.decreases-spots
decreases-spots g l = length l.at.spots - l.index
