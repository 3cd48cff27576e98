use Rattle.std.proofs.Common.{◌≡◌, take}
use Rattle.added_goals.proofs.signatures.same_symbols.Given as goal

abbrev pub invariant-loop-number : goal.invariant-loop-number
invariant-loop-number l = take l.number l.one.table ≡ take l.number l.other.table
