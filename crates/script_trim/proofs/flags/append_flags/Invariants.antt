use Rattle.std.proofs.Common.{◌≡◌, ◌++◌, replicate}
use Rattle.script_trim.proofs.flags.append_flags.Given as goal

abbrev pub invariant-loop-number : goal.invariant-loop-number
invariant-loop-number l = l.flags.items ≡ l.initial.flags.items ++ replicate l._number l.flag
