use Rattle.std.proofs.Common.{◌≡◌, ◌++◌, drop}
use Rattle.coverage_check.specs.Opened.{opened}
use Rattle.coverage_check.proofs.openings.open_rows.Given as goal

abbrev pub invariant-loop-row : goal.invariant-loop-row
invariant-loop-row l = l.made.items ++ opened l.sym.0 l.count (drop l.row-index l.rows) ≡ opened l.sym.0 l.count l.rows
