use Rattle.std.proofs.Common.{◌≡◌, ◌++◌, take}
use Rattle.std.specs.List.{flat_map}
use Rattle.spec_printing.specs.Printed.{guard_printed}
use Rattle.spec_printing.proofs.printing.append_guards.Given as goal

abbrev pub invariant-loop-guard : goal.invariant-loop-guard
invariant-loop-guard l = l.text.items ≡ l.fn.text.items ++ flat_map guard_printed (take l.guard-index l.guards)
