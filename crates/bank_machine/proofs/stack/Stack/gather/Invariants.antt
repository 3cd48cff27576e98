use Rattle.std.proofs.Common.{◌≡◌, take}
use Rattle.bank_machine.specs.Stacks.{gathered}
use Rattle.bank_machine.proofs.stack.Stack.gather.Given as goal

abbrev pub invariant-loop-slot : goal.invariant-loop-slot
invariant-loop-slot l = l.args.items ≡ gathered l.self.places.items l.self.base (take l.slot-index l.slots)
