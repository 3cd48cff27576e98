use Rattle.unifier.proofs.Readiness.{Round}
use Rattle.unifier.proofs.unification.occurs.mark_ready.Given as goal

abbrev pub invariant-loop-node : goal.invariant-loop-node
invariant-loop-node l = Round l.graph l.roots l.fn.ready l.ready l.node l.found
