use Rattle.std.proofs.Common.{◌∙◌, ap, option_copied, sym}
use Rattle.std.proofs.lemmas.Result.{IfOk-equal}
use Rattle.page_core.specs.Pages.{after}
use Rattle.report_pages.specs.Values.{side_gives}
use Rattle.report_pages.proofs.Lists.{left}
use Rattle.report_pages.proofs.refuting.draw_given.Goals as goal

pub returns-in_ok-draw_uses-in-Large : goal.returns-in_ok-draw_uses-in-Large
returns-in_ok-draw_uses-in-Large c =
    IfOk-equal c.text-in-Large-2.result _ _ _ c.text-in-Large-2.ensures
    (left c.text-in-Large.new.self c.draw_uses-in-Large.new.page _ _ c.in_ok-draw_uses-in-Large.ensures
    ∙ left c.args.page.now c.text-in-Large.new.self _ _ c.in_ok-text-in-Large.ensures
    ∙ ap (λ found. after c.args.page.now (side_gives c.args.at.now.spec.now.sig c.args.at.now.steps
    (option_copied c.args.mark) found)) (sym c.in-Large.is))
