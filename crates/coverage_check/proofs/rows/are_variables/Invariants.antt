use Rattle.std.proofs.Common.{drop, ◌↔◌}
use Rattle.std.specs.List.{AllByRecursion}
use Rattle.term_core.specs.References.{terms_of}
use Rattle.coverage_check.specs.Columns.{IsVariable}
use Rattle.coverage_check.proofs.rows.are_variables.Given as goal

abbrev pub invariant-loop-pattern : goal.invariant-loop-pattern
invariant-loop-pattern l =
    AllByRecursion IsVariable (terms_of l.patterns) ↔ AllByRecursion IsVariable
    (terms_of (drop l.pattern-index l.patterns))
