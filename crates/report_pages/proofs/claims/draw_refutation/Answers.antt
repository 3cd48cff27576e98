use Rattle.std.proofs.Common.{◌∙◌, refl}
use Rattle.std.proofs.lemmas.Result.{on_ok_weaker}
use Rattle.report_pages.specs.Claims.{refuted_note}
use Rattle.report_pages.proofs.Lists.{joined, left}
use Rattle.report_pages.proofs.claims.draw_refutation.Goals as goal

pub returns : goal.returns
returns c =
    let note = c.in_ok-end.ensures ∙ left c.begin.new.self c.text.new.self _ _ c.in_ok-text.ensures
    ∙ left c.args.page.now c.begin.new.self _ _ c.in_ok-begin.ensures in
    on_ok_weaker c.draw_refuted.result
    (λ shown. (
      _,
      (shown.0, shown.1, refl),
      joined c.args.page.now c.end.new.self c.draw_refuted.new.page refuted_note shown.0 note shown.2,
    ))
    c.draw_refuted.ensures
