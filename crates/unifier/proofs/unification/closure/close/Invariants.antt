use Rattle.unifier.specs.Work.{work}
use Rattle.unifier.proofs.Closing.{Closing}
use Rattle.unifier.proofs.unification.closure.close.Given as goal

abbrev pub invariant-loop-left : goal.invariant-loop-left
invariant-loop-left l = Closing l.graph l.first l.second l.roots.items l.pending.items

abbrev pub decreases-loop-left : goal.decreases-loop-left
decreases-loop-left l = work l.graph l.roots.items l.pending.items
