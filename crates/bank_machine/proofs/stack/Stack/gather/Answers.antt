use Rattle.std.proofs.Common.{◌+◌, ◌<◌, ap, ◌∙◌, arith, length, ℕ}
use Rattle.std.proofs.lemmas.List.{take_all}
use Rattle.std.proofs.lemmas.Option.{slice_get-get_or}
use Rattle.term_core.proofs.Items.{all_at}
use Rattle.bank_machine.specs.Stacks.{gathered}
use Rattle.bank_machine.proofs.StackMoves.{gathered_next}
use Rattle.bank_machine.proofs.stack.Stack.gather.Goals as goal

pub slot-requires : goal.slot-requires
slot-requires c = all_at (λ (s : ℕ). c.args.self.now.base + s < length c.args.self.now.places.items)
    c.args.slots.now c.requires c.loop-slot.slot-index _
    (slice_get-get_or c.args.slots.now c.loop-slot.slot-index 0 c.loop-slot-test.true)

pub loop-slot-preserved : goal.loop-slot-preserved
loop-slot-preserved c = gathered_next c.args.self.now.places.items c.args.self.now.base c.args.slots.now
    c.loop-slot.slot-index c.loop-slot-test.true c.loop-slot.args.items c.push.new.self.items c.slot.result
    c.loop-slot.invariant c.slot.ensures c.in_ok-push.ensures.items

pub returns : goal.returns
returns c = c.loop-slot.invariant ∙ ap (λ z. gathered c.args.self.now.places.items c.args.self.now.base z)
    (take_all c.loop-slot.slot-index c.args.slots.now (omega (arith, c.loop-slot-test.false)))
