use Rattle.std.proofs.Common.{◌≡◌, ℕ, ◌<◌, ◌+◌, ◌-◌, Some, length}
use Rattle.std.specs.Prelude.{slice_get}
use Rattle.refuter.proofs.sized_bank.note.Given as goal

abbrev pub invariant-loop-sizes : goal.invariant-loop-sizes
invariant-loop-sizes l = (k n : ℕ) → slice_get l.sizes.items k ≡ Some n → 0 < n → slice_get l.fn.sizes.items k ≡ Some n

abbrev pub decreases-loop-sizes : goal.decreases-loop-sizes
decreases-loop-sizes l = l.place + 1 - length l.sizes.items
