use Rattle.std.proofs.Common.{◌≡◌, List, ap, sym, ◌∙◌, ◌+◌, ◌-◌, map, min, arith}
use Rattle.term_core.specs.Tree.{Tree, app, trees_of, tree_depth, depths}
use Rattle.term_core.specs.View.{tree_of}
use Rattle.term_core.proofs.Trees.{weight-member}
use Rattle.substitutions.specs.Substitution.{apply}
use Rattle.clause_core.proofs.InstanceSizes.{instance_depths_next, depth_of_instance}
use Rattle.clause_core.proofs.instance_limits.+instance_depth.Goals as goal

pub instance_depth-returns-in-App : goal.instance_depth-returns-in-App
instance_depth-returns-in-App t c =
    let s = c.args.theta.now.terms in
    let view : app c.in-App.field-0.0 (trees_of c.in-App.args) ≡ c.args.term.now = ap tree_of (sym c.in-App.is)
    ∙ c.term.view_is in
    let whole : tree_depth (apply s c.args.term.now) ≡ 1 + depths (trees_of (map (apply s) c.in-App.args)) =
    ap (λ u. tree_depth (apply s u)) (sym view) ∙ depth_of_instance s c.in-App.field-0.0 c.in-App.args in
    let made = c.instance_depths.ensures
    ∙ ap (λ (us : List Tree). min (depths (trees_of (map (apply s) us))) (c.args.cap - 1)) c.as_slice.ensures in
    omega (arith, whole, made, c.if-cap-eq0.false)

pub instance_depths-instance_depth-requires : goal.instance_depths-instance_depth-requires
instance_depths-instance_depth-requires t
    c = (
      omega (
        arith,
        weight-member c.args.terms.now c.loop-term.term-index c.term-item.result
            c.loop-term-test.true c.term-item.is,
      ),
      tt,
    )

pub instance_depths-loop-term-preserved : goal.instance_depths-loop-term-preserved
instance_depths-loop-term-preserved t c = omega (
  arith,
  instance_depths_next c.args.theta.now.terms c.args.terms.now c.loop-term.term-index c.term-item.result
      c.loop-term-test.true c.term-item.is,
)
