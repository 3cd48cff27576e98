use Rattle.std.proofs.Common.{◌≡◌, ◌+◌, ℕ, List, arith, length, subst, take}
use Rattle.std.proofs.lemmas.List.{length-take-le}
use Rattle.spec_core.specs.declared.records.Equation.{Equation}
use Rattle.page_core.specs.Events.{Event}
use Rattle.report_pages.specs.Lists.{Draws}
use Rattle.report_pages.specs.Refutations.{IsEquationShown}
use Rattle.report_pages.proofs.Lists.{next_drawn}
use Rattle.report_pages.proofs.refuting.draw_equations.Goals as goal

pub loop-index-preserved : goal.loop-index-preserved
loop-index-preserved c =
    let at = c.args.at.now in
    let i = c.loop-index.index in
    let e = c.index-equations-index.result in
    let shown : ℕ → Equation → List Event → Type 0 =
    IsEquationShown at.spec.now at.steps at.values.now c.args.conclusion in
    let before : length (take i c.args.equations.now) ≡ i =
    length-take-le i c.args.equations.now (omega arith) in
    let count : i + 1 ≡ length (take i c.args.equations.now) + 1 = omega (arith, before) in
    next_drawn (λ before e events. shown (length before + 1) e events) c.args.equations.now i e
    c.loop-index-test.true c.index-equations-index.is c.args.page.now c.loop-index.page
    c.draw_equation.new.page c.loop-index.invariant
    (subst (λ n. Draws c.loop-index.page c.draw_equation.new.page (shown n e)) count
    c.in_ok-draw_equation.ensures)
