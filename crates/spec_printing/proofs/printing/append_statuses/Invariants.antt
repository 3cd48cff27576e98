use Rattle.std.proofs.Common.{◌≡◌, ◌++◌, take}
use Rattle.std.specs.List.{flat_map}
use Rattle.spec_printing.specs.Printed.{status_line}
use Rattle.spec_printing.proofs.printing.append_statuses.Given as goal

abbrev pub invariant-loop-status : goal.invariant-loop-status
invariant-loop-status l = l.text.items ≡ l.fn.text.items ++ flat_map status_line (take l.status-index l.statuses)
