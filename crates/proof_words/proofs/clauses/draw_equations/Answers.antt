use Rattle.std.proofs.Common.{ℕ, ◌+◌, List, ap, ◌∙◌, option_copied, arith}
use Rattle.spec_core.specs.declared.records.Equation.{Equation}
use Rattle.page_core.specs.Events.{Event}
use Rattle.page_core.specs.Pages.{after}
use Rattle.proof_words.specs.ListEvents.{separation}
use Rattle.proof_words.specs.ClauseEvents.{equation_events, separator}
use Rattle.proof_words.proofs.Items.{separated_left, separated_drawn}
use Rattle.proof_words.proofs.clauses.draw_equations.Goals as goal

pub loop-index-preserved : goal.loop-index-preserved
loop-index-preserved c =
    let naming = c.args.naming.now in
    let loop = c.loop-index in
    let item = c.index-equations-index in
    let mark = option_copied c.args.mark in
    let one : ℕ → Equation → List Event =
    λ n e. equation_events naming.sig.now naming.names.now mark c.args.conclusion (n + 1) e in
    let text = ap (λ bytes. after loop.page (separation bytes loop.index)) c.separator.ensures in
    separated_left (separator c.args.conclusion) one c.args.equations.now loop.index item.result
    c.loop-index-test.true item.is loop.page c.draw_separation.new.page c.draw_equation.new.page
    (c.in_ok-draw_separation.ensures ∙ text) c.in_ok-draw_equation.ensures
    ∙ loop.invariant

pub returns : goal.returns
returns c =
    let naming = c.args.naming.now in
    let mark = option_copied c.args.mark in
    let one : ℕ → Equation → List Event =
    λ n e. equation_events naming.sig.now naming.names.now mark c.args.conclusion (n + 1) e in
    separated_drawn (separator c.args.conclusion) one c.args.equations.now c.loop-index.index
    (omega arith) c.loop-index.page c.args.page.now _ c.loop-index.invariant
