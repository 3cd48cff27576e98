use Rattle.std.proofs.Common.{◌≡◌, take}
use Rattle.script_trim.proofs.copying.copy_values.Given as goal

abbrev pub invariant-loop-name : goal.invariant-loop-name
invariant-loop-name l = l.made.items ≡ take l.name-index l.values
