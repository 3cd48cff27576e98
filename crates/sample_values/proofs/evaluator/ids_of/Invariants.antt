use Rattle.std.proofs.Common.{◌≡◌, map, take}
use Rattle.value_bank.specs.declared.bank.ValueId.{ValueId}
use Rattle.sample_values.proofs.evaluator.ids_of.Given as goal

abbrev pub invariant-loop-place : goal.invariant-loop-place
invariant-loop-place l = map (λ (id : ValueId). id.0) l.ids.items ≡ take l.place-index l.places
