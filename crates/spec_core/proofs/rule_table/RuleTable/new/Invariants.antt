use Rattle.std.proofs.Common.{take}
use Rattle.spec_core.proofs.RuleTables.{AreLists}
use Rattle.spec_core.proofs.rule_table.RuleTable.new.Given as goal

abbrev pub invariant-loop-place : goal.invariant-loop-place
invariant-loop-place l = AreLists l.lists.items (take l.place l.spec.rules)
