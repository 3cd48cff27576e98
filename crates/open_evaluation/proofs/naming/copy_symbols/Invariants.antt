use Rattle.std.proofs.Common.{◌≡◌, drop, take}
use Rattle.open_evaluation.proofs.naming.copy_symbols.Given as goal

abbrev pub invariant-loop-number : goal.invariant-loop-number
invariant-loop-number l = l.copies ≡ drop l.from (take l.number l.sig.table)
