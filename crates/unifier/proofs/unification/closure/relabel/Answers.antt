use Rattle.unifier.proofs.Lists.{relabelled_here, relabelled_other}
use Rattle.unifier.proofs.unification.closure.relabel.Goals as goal
use Rattle.unifier.proofs.unification.closure.relabel.Goals.{then-root-from, else-root-from}

pub loop-root-preserved : goal.loop-root-preserved
loop-root-preserved c =
    elim c.if-root-from.branch [
      | then-root-from w ↦ relabelled_here c.args.from c.args.to c.args.roots.now c.loop-root.roots
          c.loop-root.root-index c.loop-root-test.true c.loop-root.auto.roots c.loop-root.invariant
          c.if-root-from.roots w.if-root-from.true w.roots-is
      | else-root-from w ↦ relabelled_other c.args.from c.args.to c.args.roots.now c.loop-root.roots
          c.loop-root.root-index c.loop-root-test.true c.loop-root.auto.roots c.loop-root.invariant
          c.if-root-from.roots w.if-root-from.false w.roots-is
    ]
