use Rattle.std.proofs.Common.{◌≡◌, List, ap, sym, ◌∙◌, ◌+◌, ◌-◌, map, min, arith}
use Rattle.term_core.specs.Tree.{Tree, app, trees_of, tree_size, sizes}
use Rattle.term_core.specs.View.{tree_of}
use Rattle.term_core.proofs.Trees.{weight-member}
use Rattle.substitutions.specs.Substitution.{apply}
use Rattle.clause_core.proofs.InstanceSizes.{instance_sizes_next, size_of_instance}
use Rattle.clause_core.proofs.instance_limits.+instance_size.Goals as goal

pub instance_size-returns-in-App : goal.instance_size-returns-in-App
instance_size-returns-in-App t c =
    let s = c.args.theta.now.terms in
    let view : app c.in-App.field-0.0 (trees_of c.in-App.args) ≡ c.args.term.now = ap tree_of (sym c.in-App.is)
    ∙ c.term.view_is in
    let whole : tree_size (apply s c.args.term.now) ≡ 1 + sizes (trees_of (map (apply s) c.in-App.args)) =
    ap (λ u. tree_size (apply s u)) (sym view) ∙ size_of_instance s c.in-App.field-0.0 c.in-App.args in
    let made = c.instance_sizes.ensures
    ∙ ap (λ (us : List Tree). min (sizes (trees_of (map (apply s) us))) (c.args.cap - 1)) c.as_slice.ensures in
    omega (arith, whole, made, c.if-cap-eq0.false)

pub instance_sizes-instance_size-size-requires : goal.instance_sizes-instance_size-size-requires
instance_sizes-instance_size-size-requires t
    c = (
      omega (
        arith,
        weight-member c.args.terms.now c.loop-term.term-index c.term-item.result
            c.loop-term-test.true c.term-item.is,
      ),
      tt,
    )

pub instance_sizes-loop-term-preserved : goal.instance_sizes-loop-term-preserved
instance_sizes-loop-term-preserved t c = omega (
  arith,
  instance_sizes_next c.args.theta.now.terms c.args.terms.now c.loop-term.term-index c.term-item.result
      c.loop-term-test.true c.term-item.is,
)
