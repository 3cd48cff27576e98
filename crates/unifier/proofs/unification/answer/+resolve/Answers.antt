use Rattle.std.proofs.Common.{◌≡◌, ◌+◌, ◌<◌, ap, sym, ◌∙◌, subst, length, arith, rules}
use Rattle.std.specs.Prelude.{slice_index}
use Rattle.term_core.specs.Tree.{app}
use Rattle.term_core.specs.Measure.{weight, weights}
use Rattle.unifier.specs.Graph.{AllBelow}
use Rattle.unifier.specs.Roots.{root}
use Rattle.unifier.specs.Answer.{resolved, resolved_all}
use Rattle.unifier.proofs.Graphs.{below_at, weight-trees_by}
use Rattle.unifier.proofs.Filling.{args_of_node, resolved_application, resolved_more}
use Rattle.unifier.proofs.unification.answer.+resolve.Goals as goal

pub resolve-resolve_all-requires : goal.resolve-resolve_all-requires
resolve-resolve_all-requires t c =
    let e : resolved c.args.graph.now c.args.roots.now c.args.node ≡ app c.in-App.sym.0
    (resolved_all c.args.graph.now c.args.roots.now c.in-App.nodes) = resolved_application c.args.graph.now
    c.args.roots.now c.args.node c.index-graph-node.result c.in-App.sym c.in-App.nodes c.requires.acyclic
    c.requires.node c.index-graph-node.is c.in-App.is in
    let w : weight (resolved c.args.graph.now c.args.roots.now c.args.node) ≡ weights
    (resolved_all c.args.graph.now c.args.roots.now c.in-App.nodes) + 1 = ap (λ x. weight x) e in
    let v : weights (resolved_all c.args.graph.now c.args.roots.now c.as_slice.result.now) ≡ weights
    (resolved_all c.args.graph.now c.args.roots.now c.in-App.nodes) = ap
    (λ ns. weights (resolved_all c.args.graph.now c.args.roots.now ns)) c.as_slice.ensures in (
      omega (arith, w, v),
      (
        c.requires.graph,
        (
          c.requires.roots,
          (
            c.requires.acyclic,
            subst (λ ns. AllBelow (length c.args.graph.now) ns) (sym c.as_slice.ensures)
                (args_of_node c.args.graph.now c.args.roots.now c.args.node c.index-graph-node.result c.in-App.sym
                c.in-App.nodes c.requires.graph c.requires.node c.index-graph-node.is c.in-App.is),
          ),
        ),
      ),
    )

pub resolve-returns-in_ok-resolve_all-in-App : goal.resolve-returns-in_ok-resolve_all-in-App
resolve-returns-in_ok-resolve_all-in-App t c =
    let e = resolved_application c.args.graph.now c.args.roots.now c.args.node c.index-graph-node.result
    c.in-App.sym c.in-App.nodes c.requires.acyclic c.requires.node c.index-graph-node.is c.in-App.is in
    c.app.ensures ∙ ap (λ us. app c.in-App.sym.0 us) (c.in_ok-resolve_all-in-App.ensures
    ∙ ap (λ ns. resolved_all c.args.graph.now c.args.roots.now ns) c.as_slice.ensures) ∙ sym e

pub resolve_all-offset_bounds-roots-node : goal.resolve_all-offset_bounds-roots-node
resolve_all-offset_bounds-roots-node t c =
    let h : slice_index c.args.nodes.now c.loop-node.node-index < length c.args.roots.now = omega (
      arith,
      c.requires.roots.long,
      below_at (length c.args.graph.now) c.args.nodes.now c.loop-node.node-index
          c.requires.nodes c.loop-node-test.true,
    ) in
    search rules

pub resolve_all-bounds-roots-node : goal.resolve_all-bounds-roots-node
resolve_all-bounds-roots-node t c = omega (
  arith,
  c.requires.roots.long,
  below_at (length c.args.graph.now) c.args.nodes.now c.loop-node.node-index c.requires.nodes c.loop-node-test.true,
)

pub resolve_all-resolve-requires : goal.resolve_all-resolve-requires
resolve_all-resolve-requires t c =
    let b = below_at (length c.args.graph.now) c.args.nodes.now c.loop-node.node-index c.requires.nodes
    c.loop-node-test.true in
    let w = weight-trees_by (λ n. resolved c.args.graph.now c.args.roots.now (root c.args.roots.now n))
    c.args.nodes.now c.loop-node.node-index c.loop-node-test.true in (
      omega (arith, w),
      (
        c.requires.graph,
        (
          c.requires.roots,
          (
            c.requires.acyclic,
            c.requires.roots.within (slice_index c.args.nodes.now c.loop-node.node-index) b,
          ),
        ),
      ),
    )

pub resolve_all-loop-node-preserved : goal.resolve_all-loop-node-preserved
resolve_all-loop-node-preserved t c =
    resolved_more c.args.graph.now c.args.roots.now c.args.nodes.now c.loop-node.node-index c.loop-node.made
    c.push.new.self c.in_ok-resolve.field-0 c.loop-node-test.true c.in_ok-resolve.ensures
    c.loop-node.invariant c.in_ok-push.ensures.pushed
