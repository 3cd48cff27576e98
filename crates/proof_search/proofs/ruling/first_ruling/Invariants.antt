use Rattle.clause_places.specs.Spots.{Spot, spots}
use Rattle.routine_proof.specs.Entries.{rules}
use Rattle.proof_search.specs.Ruling.{rulings_by}
use Rattle.routine_proof.specs.Candidates.{Gives}
use Rattle.proof_search.specs.Taking.{SaysAt}
use Rattle.proof_search.proofs.Walking.{Passed}
use Rattle.proof_search.proofs.ruling.first_ruling.Given as goal

abbrev pub invariant-loop-index : goal.invariant-loop-index
invariant-loop-index g l =
    Passed (Gives (SaysAt (g.O.TermOrder.above l.order) l.at)) (spots l.at.here.now)
    (λ (s : Spot). rulings_by l.entry s.place (rules l.at.setting.now.spec.now)) l.index
