use Rattle.std.proofs.Common.{sym, subst}
use Rattle.clause_core.specs.Tidied.{goal_clause}
use Rattle.acceptance.specs.Accepting.{IsShown}
use Rattle.acceptance.specs.Blocks.{Proves}
use Rattle.std.specs.Prelude.{Contains}
use Rattle.std.proofs.lemmas.Result.{on_ok_weaker}
use Rattle.report_pages.specs.Claims.{IsOutcomeShown, IsProvedShown}
use Rattle.report_pages.specs.Lists.{Draws}
use Rattle.report_pages.proofs.AcceptedClaims.{proves_over}
use Rattle.report_pages.proofs.claims.draw_outcome.Goals as goal

pub draw_proved-requires-clause-proves : goal.draw_proved-requires-clause-proves
draw_proved-requires-clause-proves g c =
    let above = g.O.TermOrder.above c.args.admitted.now.order in
    let spec = c.args.admitted.now.spec in
    let at = c.args.at.now in
    let before = c.requires.shown.0 in
    let shown = subst (IsShown above spec at.steps before at.goal.now) c.in-Proved.is c.requires.shown.2 in
    subst (λ steps. Proves above spec (Contains at.proved.now) (goal_clause at.goal.now) steps) (sym c.as_slice.ensures)
    (proves_over above spec at.steps before at.proved.now c.requires.shown.1 (goal_clause at.goal.now)
    c.in-Proved.block.steps shown)

pub returns-in-Proved : goal.returns-in-Proved
returns-in-Proved g c =
    let above = g.O.TermOrder.above c.args.admitted.now.order in
    let spec = c.args.admitted.now.spec in
    let at = c.args.at.now in
    let old = c.args.page.now in
    let new = c.draw_proved.new.page in
    on_ok_weaker c.draw_proved.result
    (λ shown before are.
    subst (λ outcome. Draws old new (IsOutcomeShown above spec at.steps before at.number at.goal.now outcome))
    (sym c.in-Proved.is)
    (subst (λ steps. Draws old new (IsProvedShown above spec at.steps before at.number at.goal.now steps))
    c.as_slice.ensures (shown before are)))
    c.draw_proved.ensures
