use Rattle.overlap_check.proofs.SmallEntries.{more_small}
use Rattle.overlap_check.proofs.common_values.add_small_values.Goals as goal

pub loop-var-preserved : goal.loop-var-preserved
loop-var-preserved c =
    more_small c.args.sig.now c.args.vars.now c.loop-var.var-index c.var-item.result c.loop-var.values
    c.push.new.self c.args.values.now c.in_ok-small.field-0 c.loop-var-test.true c.var-item.is
    c.in_ok-small.ensures c.in_ok-push.ensures.pushed c.loop-var.invariant
