use Rattle.std.proofs.Common.{◌≡◌, map, take}
use Rattle.value_bank.specs.declared.bank.ValueId.{ValueId}
use Rattle.bank_machine.proofs.machine.Machine.run.Given as goal

abbrev pub invariant-loop-value : goal.invariant-loop-value
invariant-loop-value l = l.slots.items ≡ map (λ (id : ValueId). id.0) (take l.value-index l.values)
