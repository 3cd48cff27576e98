use Rattle.proof_search.proofs.FirstProofs.{AreLeft}
use Rattle.proof_search.proofs.guiding.first_proof.Given as goal

abbrev pub invariant-loop-number : goal.invariant-loop-number
invariant-loop-number g l =
    AreLeft (g.O.TermOrder.above l.order) l.spec l.lemmas l.goal l.nodes l.number
