use Rattle.std.proofs.Common.{take}
use Rattle.refuter.proofs.Sizing.{SizeUpTo}
use Rattle.refuter.proofs.sized_bank.size_by.Given as goal

abbrev pub invariant-loop-arg : goal.invariant-loop-arg
invariant-loop-arg l = SizeUpTo l.sizes (take l.arg-index l.args) l.size
