use Rattle.std.proofs.Common.{◌≡◌, ◌++◌, take}
use Rattle.std.specs.List.{flat_map}
use Rattle.spec_printing.specs.Printed.{equal_line}
use Rattle.spec_printing.proofs.printing.append_equals.Given as goal

abbrev pub invariant-loop-equal : goal.invariant-loop-equal
invariant-loop-equal l = l.text.items ≡ l.fn.text.items ++ flat_map equal_line (take l.equal-index l.equals)
