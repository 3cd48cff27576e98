use Rattle.std.proofs.Common.{◌≡◌, ap, sym, ◌∙◌, map, arith}
use Rattle.term_core.specs.Tree.{app, trees_of}
use Rattle.term_core.specs.View.{tree_of}
use Rattle.term_core.proofs.Bounds.{occurs_below}
use Rattle.term_core.proofs.Trees.{weight-member}
use Rattle.substitutions.specs.Substitution.{apply, apply_all}
use Rattle.substitutions.proofs.Instances.{apply_all-trees_of, apply_closed}
use Rattle.substitutions.proofs.subst.Subst.+apply.Goals as goal

pub apply-returns-in_ok-apply_all-in-App : goal.apply-returns-in_ok-apply_all-in-App
apply-returns-in_ok-apply_all-in-App t c =
    let s = c.args.self.now.terms in
    let xs = c.as_slice.result.now in
    let same : xs ≡ c.in-App.args = c.as_slice.ensures in
    let made : c.in_ok-apply_all-in-App.field-0 ≡ map (apply s) xs = c.in_ok-apply_all-in-App.ensures in
    let view : app c.in-App.sym.0 (trees_of c.in-App.args) ≡ c.args.term.now = ap tree_of (sym c.in-App.is)
    ∙ c.term.view_is in
    c.app.ensures ∙ ap (λ us. app c.in-App.sym.0 us) (ap trees_of made ∙ sym (apply_all-trees_of s xs)
    ∙ ap (λ us. apply_all s (trees_of us)) same) ∙ ap (apply s) view

pub apply_all-apply-requires : goal.apply_all-apply-requires
apply_all-apply-requires t
    c = (
      omega (
        arith,
        weight-member c.args.terms.now c.loop-term.term-index c.term-item.result
            c.loop-term-test.true c.term-item.is,
      ),
      tt,
    )

pub apply-returns-then-bound-eq0 : goal.apply-returns-then-bound-eq0
apply-returns-then-bound-eq0 t c =
    let closed = apply_closed c.args.term.now c.args.self.now.terms
    (λ n o. omega (arith, occurs_below n c.args.term.now o, c.bound.ensures, c.if-bound-eq0.true)) in
    rw closed c.copy.ensures
