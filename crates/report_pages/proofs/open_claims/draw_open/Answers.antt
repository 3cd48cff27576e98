use Rattle.std.proofs.Common.{◌∙◌}
use Rattle.std.proofs.lemmas.Result.{IfOk-equal}
use Rattle.report_pages.proofs.Lists.{left}
use Rattle.report_pages.proofs.open_claims.draw_open.Goals as goal

pub returns : goal.returns
returns c =
    IfOk-equal c.text-6.result _ _ _ c.text-6.ensures
    (left c.text-5.new.self c.number-5.new.self _ _ c.in_ok-number-5.ensures
    ∙ left c.number-4.new.self c.text-5.new.self _ _ c.in_ok-text-5.ensures
    ∙ left c.text-4.new.self c.number-4.new.self _ _ c.in_ok-number-4.ensures
    ∙ left c.number-3.new.self c.text-4.new.self _ _ c.in_ok-text-4.ensures
    ∙ left c.text-3.new.self c.number-3.new.self _ _ c.in_ok-number-3.ensures
    ∙ left c.number-2.new.self c.text-3.new.self _ _ c.in_ok-text-3.ensures
    ∙ left c.text-2.new.self c.number-2.new.self _ _ c.in_ok-number-2.ensures
    ∙ left c.number.new.self c.text-2.new.self _ _ c.in_ok-text-2.ensures
    ∙ left c.text.new.self c.number.new.self _ _ c.in_ok-number.ensures
    ∙ left c.args.page.now c.text.new.self _ _ c.in_ok-text.ensures)
