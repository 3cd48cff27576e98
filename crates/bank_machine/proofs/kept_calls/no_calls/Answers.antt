use Rattle.std.proofs.Common.{refl}
use Rattle.bank_machine.proofs.RightCalls.{no_values, no_values_more}
use Rattle.bank_machine.proofs.kept_calls.no_calls.Goals as goal

pub loop-init : goal.loop-init
loop-init c = no_values c.in_ok-made.made.items c.in_ok-made.ensures.items

pub loop-preserved : goal.loop-preserved
loop-preserved c = no_values_more c.loop.made.items c.push.new.self.items _ c.loop.invariant
    c.in_ok-push.ensures.items refl
