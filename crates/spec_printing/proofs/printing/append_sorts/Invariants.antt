use Rattle.std.proofs.Common.{◌≡◌, ◌++◌, take}
use Rattle.std.specs.List.{flat_map}
use Rattle.spec_printing.specs.Printed.{sort_line}
use Rattle.spec_printing.proofs.printing.append_sorts.Given as goal

abbrev pub invariant-loop-sort : goal.invariant-loop-sort
invariant-loop-sort l = l.text.items ≡ l.fn.text.items ++ flat_map sort_line (take l.sort-index l.sorts)
