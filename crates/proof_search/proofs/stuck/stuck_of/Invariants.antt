use Rattle.proof_search.specs.Stuck.{AreStuck}
use Rattle.proof_search.proofs.stuck.stuck_of.Given as goal

abbrev pub invariant-loop-number : goal.invariant-loop-number
invariant-loop-number g l =
    AreStuck (g.O.TermOrder.above l.order) l.spec l.lemmas l.goal l.found.items
