use Rattle.report_pages.specs.Values.{variable_events}
use Rattle.report_pages.proofs.Lists.{each_more}
use Rattle.report_pages.proofs.refuting.draw_values.Goals as goal

pub loop-name-preserved : goal.loop-name-preserved
loop-name-preserved c =
    each_more (variable_events c.args.sig.now) c.args.values.now c.loop-name.name-index c.loop-name-item.result
    c.loop-name-test.true c.loop-name-item.is c.args.page.now c.loop-name.page c.draw_variable.new.page
    c.loop-name.invariant c.in_ok-draw_variable.ensures
