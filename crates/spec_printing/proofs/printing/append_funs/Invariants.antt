use Rattle.std.proofs.Common.{◌≡◌, ◌++◌, take}
use Rattle.std.specs.List.{flat_map}
use Rattle.spec_printing.specs.Printed.{fun_line}
use Rattle.spec_printing.proofs.printing.append_funs.Given as goal

abbrev pub invariant-loop-function : goal.invariant-loop-function
invariant-loop-function l = l.text.items ≡ l.fn.text.items ++ flat_map fun_line (take l.function-index l.funs)
