use Rattle.std.proofs.Common.{◌≡◌, length}
use Rattle.node_names.specs.Names.{AreNames}
use Rattle.node_names.proofs.clauses.clause_names.Given as goal

abbrev pub invariant-loop-sort : goal.invariant-loop-sort
invariant-loop-sort l = record {
  names : AreNames l.spec l.goal l.made.items;
  each : length l.made.items ≡ l.sort-index;
}
