use Rattle.script_trim.proofs.OwnTerms.{one_more_variable}
use Rattle.script_trim.proofs.closing.own_variables.Goals as goal

pub loop-number-preserved : goal.loop-number-preserved
loop-number-preserved c =
    one_more_variable c.loop-number.made.items c.push.new.self.items c.loop-number.number c.var.result
    c.in_ok-push.ensures.items c.loop-number.invariant c.var.ensures
