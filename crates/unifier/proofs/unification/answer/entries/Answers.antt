use Rattle.std.proofs.Common.{◌+◌, sym, subst}
use Rattle.substitutions.specs.declared.subst.Subst.{Subst}
use Rattle.unifier.proofs.Filling.{AreEntriesBelow, entries_more, entries_keep, entries_stay}
use Rattle.unifier.proofs.unification.answer.entries.Goals as goal
use Rattle.unifier.proofs.unification.answer.entries.Goals.{in-Var+then-root-node+in_ok-term+in_ok-set}
use Rattle.unifier.proofs.unification.answer.entries.Goals.{in-Var+else-root-node, in_default}

pub loop-node-preserved : goal.loop-node-preserved
loop-node-preserved c =
    elim c.match-shape.branch [
      | in-Var+then-root-node+in_ok-term+in_ok-set w ↦
          subst (λ (v : Subst). AreEntriesBelow c.args.graph.now c.args.roots.now (c.loop-node.node + 1)
          v.terms) (sym w.made-is)
          (entries_more c.args.graph.now c.args.roots.now c.loop-node.made.terms w.set.new.self.terms
          c.loop-node.node c.index-graph-node.result w.in-Var.var w.in_ok-term.term c.requires.variables
          c.loop-node-test.true c.index-graph-node.is w.in-Var.is w.in_ok-term.ensures c.loop-node.invariant
          w.in_ok-set.ensures.set)
      | in-Var+else-root-node w ↦
          subst (λ (v : Subst). AreEntriesBelow c.args.graph.now c.args.roots.now (c.loop-node.node + 1)
          v.terms) (sym w.made-is)
          (entries_keep c.args.graph.now c.args.roots.now c.loop-node.made.terms c.loop-node.node
          c.index-graph-node.result w.in-Var.var c.requires.variables c.requires.acyclic
          c.loop-node-test.true c.index-graph-node.is w.in-Var.is w.if-root-node.false c.loop-node.invariant)
      | in_default w ↦
          subst (λ (v : Subst). AreEntriesBelow c.args.graph.now c.args.roots.now (c.loop-node.node + 1)
          v.terms) (sym w.made-is)
          (entries_stay c.args.graph.now c.args.roots.now c.loop-node.made.terms c.loop-node.node
          c.index-graph-node.result w.in_default.field-0 w.in_default.field-1 c.loop-node-test.true
          c.index-graph-node.is w.in_default.is c.loop-node.invariant)
    ]
