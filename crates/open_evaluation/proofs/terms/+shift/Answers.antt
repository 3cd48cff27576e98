use Rattle.std.proofs.Common.{◌≡◌, ap, sym, ◌∙◌, map, arith}
use Rattle.term_core.specs.Tree.{app, trees_of}
use Rattle.term_core.specs.View.{tree_of}
use Rattle.term_core.proofs.Trees.{weight-member}
use Rattle.open_evaluation.specs.Shifted.{shifted_number, shifted, shifted_all}
use Rattle.open_evaluation.proofs.ShiftedTerms.{shifted_all-trees_of}
use Rattle.open_evaluation.proofs.terms.+shift.Goals as goal

pub shift_term-returns-in_ok-args-in-App : goal.shift_term-returns-in_ok-args-in-App
shift_term-returns-in_ok-args-in-App t c =
    let k = c.args.constructors in
    let u = c.args.constants in
    let f = c.in-App.sym.0 in
    let xs = c.as_slice.result.now in
    let same : xs ≡ c.in-App.args = c.as_slice.ensures in
    let made : c.in_ok-args-in-App.args ≡ map (shifted k u) xs = c.in_ok-args-in-App.ensures in
    let view : app f (trees_of c.in-App.args) ≡ c.args.term.now = ap tree_of (sym c.in-App.is) ∙ c.term.view_is in
    c.app.ensures
    ∙ ap (λ n. app n (trees_of c.in_ok-args-in-App.args)) c.in_ok-number-in-App.ensures.number
    ∙ ap (λ us. app (shifted_number k u f) us) (ap trees_of made ∙ sym (shifted_all-trees_of k u xs)
    ∙ ap (λ us. shifted_all k u (trees_of us)) same)
    ∙ ap (shifted k u) view

pub shift_terms-shift_term-requires : goal.shift_terms-shift_term-requires
shift_terms-shift_term-requires t
    c = (
      omega (
        arith,
        weight-member c.args.terms.now c.loop-term.term-index c.term-item.result
            c.loop-term-test.true c.term-item.is,
      ),
      tt,
    )
