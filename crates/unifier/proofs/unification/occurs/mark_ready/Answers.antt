use Rattle.std.proofs.Common.{◌≡◌, ℕ, ◌<◌, ◌+◌, List, Bool, sym, subst}
use Rattle.unifier.specs.declared.unification.graph.Shape.{Shape}
use Rattle.unifier.specs.Cycles.{EachArg}
use Rattle.unifier.proofs.Readiness.{Round, args_of_shape, round_marks, round_held, round_passes}
use Rattle.unifier.proofs.unification.occurs.mark_ready.Goals as goal
use Rattle.unifier.proofs.unification.occurs.mark_ready.Goals.{then-not-ready-node+then-are_ready, else-not-ready-node}
use Rattle.unifier.proofs.unification.occurs.mark_ready.Goals.{else-not-ready-node-via-then-not-ready-node+else-are_ready}
use Rattle.unifier.proofs.unification.occurs.mark_ready.Goals.{else-not-ready-node-via-else-not-ready-node}

moved : (graph : List Shape) (roots : List ℕ) (old : List Bool) (node : ℕ) {ready now : List Bool}
    {found here : Bool} → now ≡ ready → here ≡ found → Round graph roots old ready node found →
    Round graph roots old now node here
moved graph roots old node {ready} {now} {found} {here} e d r = subst (λ b. Round graph roots old now node b)
    (sym d) (subst (λ bs. Round graph roots old bs node found) (sym e) r)

pub are_ready-requires-clause-nodes : goal.are_ready-requires-clause-nodes
are_ready-requires-clause-nodes c =
    subst (λ n. EachArg (λ k. k < n) c.index-graph-node.result) (sym c.requires.roots.long)
    (args_of_shape c.args.graph.now c.args.roots.now c.loop-node.node c.index-graph-node.result
    c.requires.graph c.loop-node-test.true c.index-graph-node.is)

pub loop-node-preserved : goal.loop-node-preserved
loop-node-preserved c =
    elim c.if-not-ready-node.branch [
      | then-not-ready-node+then-are_ready w ↦
          let r = round_marks c.args.graph.now c.args.roots.now c.args.ready.now c.loop-node.ready
          c.loop-node.node c.loop-node.found c.requires.graph c.requires.roots c.loop-node-test.true
          c.loop-node.invariant w.index-graph-node.result w.index-graph-node.is w.if-not-ready-node.true
          w.if-are_ready.ensures in
          moved c.args.graph.now c.args.roots.now c.args.ready.now (c.loop-node.node + 1) w.ready-is w.found-is r
      | else-not-ready-node w ↦
          moved c.args.graph.now c.args.roots.now c.args.ready.now (c.loop-node.node + 1) w.ready-is w.found-is
          (elim w.else-not-ready-node.branch [
            | else-not-ready-node-via-then-not-ready-node+else-are_ready v ↦ round_held c.args.graph.now
                c.args.roots.now c.args.ready.now c.loop-node.ready c.loop-node.node c.loop-node.found
                c.requires.graph c.requires.roots c.loop-node-test.true c.loop-node.invariant
                v.index-graph-node.result v.index-graph-node.is v.if-are_ready.ensures
            | else-not-ready-node-via-else-not-ready-node v ↦ round_passes c.args.graph.now c.args.roots.now
                c.args.ready.now c.loop-node.ready c.loop-node.node c.loop-node.found c.requires.graph
                c.requires.roots c.loop-node-test.true c.loop-node.invariant v.if-not-ready-node.false
          ])
    ]
