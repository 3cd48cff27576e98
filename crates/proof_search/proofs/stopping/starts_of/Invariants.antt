use Rattle.proof_search.specs.Stuck.{AreStuckStarts}
use Rattle.proof_search.proofs.stopping.starts_of.Given as goal

abbrev pub invariant-loop-number : goal.invariant-loop-number
invariant-loop-number g l =
    AreStuckStarts (g.O.TermOrder.above l.order) l.spec l.lemmas l.goal l.found.items
