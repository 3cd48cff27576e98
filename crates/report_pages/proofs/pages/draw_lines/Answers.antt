use Rattle.std.specs.Prelude.{option_map}
use Rattle.report_pages.specs.Claims.{IsLineShown}
use Rattle.report_pages.specs.Lists.{Where}
use Rattle.report_pages.specs.ReportPages.{is_asked}
use Rattle.report_pages.proofs.Lists.{next_drawn}
use Rattle.report_pages.proofs.pages.draw_lines.Goals as goal

pub loop-claim-preserved : goal.loop-claim-preserved
loop-claim-preserved c =
    let spec = c.args.spec.now in
    let asked = option_map (λ name. name.now) c.args.asked in
    next_drawn (λ before claim shown. Where (is_asked asked claim) (IsLineShown spec claim) shown) c.args.claims.now
    c.loop-claim.claim-index c.claim-item.result c.loop-claim-test.true c.claim-item.is c.args.page.now
    c.loop-claim.page c.draw_line_of.new.page c.loop-claim.invariant c.in_ok-draw_line_of.ensures
