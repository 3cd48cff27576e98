use Rattle.unifier.proofs.Filling.{AreEntriesBelow}
use Rattle.unifier.proofs.unification.answer.entries.Given as goal

abbrev pub invariant-loop-node : goal.invariant-loop-node
invariant-loop-node l = AreEntriesBelow l.graph l.roots l.node l.made.terms
