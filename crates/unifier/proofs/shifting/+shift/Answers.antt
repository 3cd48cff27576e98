use Rattle.std.proofs.Common.{Err, ◌≡◌, ◌∙◌, sym, ap, map, arith, subst, refl}
use Rattle.std.proofs.lemmas.Grind.{common_steps}
use Rattle.term_core.specs.Tree.{var, app, trees_of}
use Rattle.term_core.specs.View.{tree_of}
use Rattle.term_core.proofs.Trees.{weight-member}
use Rattle.term_core.specs.Variables.{Occurs}
use Rattle.unifier.specs.Shifting.{shifted, shifted_all}
use Rattle.unifier.specs.declared.shifting.ShiftError.TheVariants.{TooLarge as too_large}
use Rattle.unifier.proofs.Shifts.{same_error, shifted_all-trees_of, too_large_member, within_more}
use Rattle.unifier.proofs.shifting.+shift.Goals as goal

pub shift-returns-in-None-clause-too_large : goal.shift-returns-in-None-clause-too_large
shift-returns-in-None-clause-too_large t c =
    let view : var c.in-Var.var.0 ≡ c.args.term.now = ap tree_of (sym c.in-Var.is) ∙ c.term.view_is in
    λ _. (c.in-Var.var.0, subst (λ u. Occurs c.in-Var.var.0 u) view refl, omega (arith, c.in-None.ensures))

pub shift-returns-in_ok-shift_all-in-App-clause-shifted :
    goal.shift-returns-in_ok-shift_all-in-App-clause-shifted
shift-returns-in_ok-shift_all-in-App-clause-shifted t c =
    let by = c.args.by in
    let xs = c.as_slice.result.now in
    let same : xs ≡ c.in-App.args = c.as_slice.ensures in
    let made : c.in_ok-shift_all-in-App.field-0 ≡ map (shifted by) xs = c.in_ok-shift_all-in-App.ensures.shifted in
    let view : app c.in-App.sym.0 (trees_of c.in-App.args) ≡ c.args.term.now = ap tree_of (sym c.in-App.is)
    ∙ c.term.view_is in
    c.app.ensures ∙ ap (λ us. app c.in-App.sym.0 us) (ap trees_of made ∙ sym (shifted_all-trees_of by xs)
    ∙ ap (λ us. shifted_all by (trees_of us)) same) ∙ ap (shifted by) view

pub shift_all-shift-requires : goal.shift_all-shift-requires
shift_all-shift-requires t
    c = (
      omega (
        arith,
        weight-member c.args.terms.now c.loop-term.term-index c.term-item.result
            c.loop-term-test.true c.term-item.is,
      ),
      tt,
    )

pub shift_all-returns-in_err-shift-clause-too_large :
    goal.shift_all-returns-in_err-shift-clause-too_large
shift_all-returns-in_err-shift-clause-too_large t c =
    λ e. too_large_member c.args.by c.args.terms.now c.loop-term.term-index c.term-item.result
    c.loop-term-test.true c.term-item.is
    (c.in_err-shift.ensures.too_large
    (ap Err (same_error c.from_residual-in_err-shift.result too_large c.in_err-shift.field-0.0 e
    c.from_residual-in_err-shift.ensures.1)))

pub shift_all-loop-term-preserved : goal.shift_all-loop-term-preserved
shift_all-loop-term-preserved t c = (
  grind (arith, common_steps, c.loop-term.invariant.0, c.in_ok-push.ensures.pushed),
  within_more c.args.by c.args.terms.now c.loop-term.term-index c.term-item.result c.loop-term-test.true
      c.term-item.is c.loop-term.invariant.1 c.in_ok-shift.ensures.within,
)
