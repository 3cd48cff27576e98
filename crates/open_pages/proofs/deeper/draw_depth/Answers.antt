use Rattle.std.proofs.Common.{◌∙◌}
use Rattle.std.proofs.lemmas.Result.{IfOk-equal}
use Rattle.report_pages.proofs.Lists.{left}
use Rattle.open_pages.proofs.deeper.draw_depth.Goals as goal

pub returns : goal.returns
returns c =
    IfOk-equal c.end.result _ _ _ c.end.ensures
    (left c.number.new.self c.text-2.new.self _ _ c.in_ok-text-2.ensures
    ∙ left c.text.new.self c.number.new.self _ _ c.in_ok-number.ensures
    ∙ left c.begin.new.self c.text.new.self _ _ c.in_ok-text.ensures
    ∙ left c.args.page.now c.begin.new.self _ _ c.in_ok-begin.ensures)
