use Rattle.std.proofs.Common.{◌≤◌, length}
use Rattle.spec_core.specs.RuleTables.{HasSameLists}
use Rattle.spec_core.proofs.rule_table.reach.Given as goal

abbrev pub invariant-loop : goal.invariant-loop
invariant-loop l = record {
  same : HasSameLists l.fn.lists.items l.lists.items;
  count : l.counter ≤ length l.lists.items;
}
