use Rattle.std.proofs.Common.{◌∙◌}
use Rattle.std.proofs.lemmas.Result.{IfOk-equal}
use Rattle.report_pages.proofs.Lists.{left}
use Rattle.report_pages.proofs.refuting.draw_marked.Goals as goal

pub returns : goal.returns
returns c =
    IfOk-equal c.draw_given-2.result _ _ _ c.draw_given-2.ensures
    (left c.draw_given.new.page c.text-2.new.self _ _ c.in_ok-text-2.ensures
    ∙ left c.text.new.self c.draw_given.new.page _ _ c.in_ok-draw_given.ensures
    ∙ left c.args.page.now c.text.new.self _ _ c.in_ok-text.ensures)
