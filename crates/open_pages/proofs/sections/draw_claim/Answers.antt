use Rattle.std.proofs.Common.{subst}
use Rattle.std.proofs.lemmas.Result.{on_ok_weaker}
use Rattle.report_pages.specs.Lists.{Where}
use Rattle.open_pages.specs.Sections.{IsSection}
use Rattle.open_pages.proofs.sections.draw_claim.Goals as goal

pub returns : goal.returns
returns g c =
    let above = g.O.TermOrder.above c.args.admitted.now.order in
    let spec = c.args.admitted.now.spec in
    let at = c.args.at.now in
    on_ok_weaker c.draw_open.result
    (λ section before are.
    let drawn = section before are in (
      drawn.0,
      subst (λ b. Where b (IsSection above spec at.search before at.claim.now) drawn.0)
          c.if-not-is_shown.ensures drawn.1,
      drawn.2,
    ))
    c.draw_open.ensures
