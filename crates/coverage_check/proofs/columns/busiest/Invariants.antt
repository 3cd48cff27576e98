use Rattle.coverage_check.proofs.Busiest.{BusiestSoFar}
use Rattle.coverage_check.proofs.columns.busiest.Given as goal

abbrev pub invariant-loop-column : goal.invariant-loop-column
invariant-loop-column l = BusiestSoFar l.rows l.column l.found l.most
