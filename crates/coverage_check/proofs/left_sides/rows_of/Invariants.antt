use Rattle.std.proofs.Common.{◌≡◌, take}
use Rattle.coverage_check.specs.LeftSides.{rows_of}
use Rattle.coverage_check.proofs.left_sides.rows_of.Given as goal

abbrev pub invariant-loop-rule : goal.invariant-loop-rule
invariant-loop-rule l = l.rows.items ≡ rows_of l.function.0 (take l.rule-index l.rule-items)
