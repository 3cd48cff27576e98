use Rattle.std.proofs.Common.{◌≡◌, ◌++◌, take}
use Rattle.std.specs.List.{flat_map}
use Rattle.spec_printing.specs.Printed.{rule_line}
use Rattle.spec_printing.proofs.printing.append_rules.Given as goal

abbrev pub invariant-loop-rule : goal.invariant-loop-rule
invariant-loop-rule l = l.text.items ≡ l.fn.text.items ++ flat_map rule_line (take l.rule-index l.rules)
