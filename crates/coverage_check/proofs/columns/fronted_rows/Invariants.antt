use Rattle.std.proofs.Common.{◌≡◌, take, map}
use Rattle.coverage_check.specs.Columns.{fronted}
use Rattle.coverage_check.proofs.columns.fronted_rows.Given as goal

abbrev pub invariant-loop-row : goal.invariant-loop-row
invariant-loop-row l = l.made.items ≡ map (fronted l.column) (take l.row-index l.rows)
