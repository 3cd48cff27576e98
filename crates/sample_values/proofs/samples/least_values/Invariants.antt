use Rattle.std.proofs.Common.{◌≡◌}
use Rattle.sample_values.proofs.samples.least_values.Given as goal

abbrev pub invariant-loop-sort : goal.invariant-loop-sort
invariant-loop-sort l = record {
  same : l.pool.spec ≡ l.spec;
  kept : l.pool.spec ≡ l.fn.pool.spec;
}
