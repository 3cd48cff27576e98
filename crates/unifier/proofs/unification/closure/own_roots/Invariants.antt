use Rattle.unifier.specs.Roots.{AreOwn}
use Rattle.unifier.proofs.unification.closure.own_roots.Given as goal

abbrev pub invariant-loop-node : goal.invariant-loop-node
invariant-loop-node l = AreOwn l.node l.roots.items
