use Rattle.std.proofs.Common.{◌≡◌, ◌+◌, length}
use Rattle.node_names.specs.Names.{AreNames}
use Rattle.node_names.proofs.brought.with_brought.Given as goal

abbrev pub invariant-loop-sort : goal.invariant-loop-sort
invariant-loop-sort l = record {
  names : AreNames l.setting.spec.now l.setting.goal.now l.made.items;
  long : length l.made.items ≡ length l.names + l.sort-index;
}
