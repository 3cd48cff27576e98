use Rattle.std.proofs.Common.{◌≡◌, ◌++◌, replicate}
use Rattle.coverage_check.proofs.openings.push_times.Given as goal

abbrev pub invariant-loop : goal.invariant-loop
invariant-loop l = l.row ≡ l.fn.row ++ replicate l.counter l.pattern
