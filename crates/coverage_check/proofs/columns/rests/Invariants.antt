use Rattle.std.proofs.Common.{◌≡◌, take}
use Rattle.coverage_check.specs.Opened.{rests}
use Rattle.coverage_check.proofs.columns.rests.Given as goal

abbrev pub invariant-loop-row : goal.invariant-loop-row
invariant-loop-row l = l.made.items ≡ rests (take l.row-index l.rows)
