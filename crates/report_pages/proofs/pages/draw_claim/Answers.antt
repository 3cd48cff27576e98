use Rattle.std.proofs.Common.{subst}
use Rattle.std.proofs.lemmas.Result.{on_ok_weaker}
use Rattle.report_pages.specs.Claims.{IsClaimShown}
use Rattle.report_pages.specs.Lists.{Where}
use Rattle.report_pages.proofs.pages.draw_claim.Goals as goal

pub returns : goal.returns
returns g c =
    let above = g.O.TermOrder.above c.args.admitted.now.order in
    let spec = c.args.admitted.now.spec in
    let at = c.args.at.now in
    on_ok_weaker c.draw_section.result
    (λ section before are.
    let drawn = section before are in (
      drawn.0,
      subst (λ b. Where b (IsClaimShown above spec at.steps before c.args.claim.now) drawn.0) c.if-not-is_asked.ensures
          (at.number, at.goal.now, c.requires.goal, drawn.1),
      drawn.2,
    ))
    c.draw_section.ensures
