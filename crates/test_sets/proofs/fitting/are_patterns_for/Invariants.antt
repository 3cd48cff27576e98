use Rattle.std.proofs.Common.{take}
use Rattle.std.specs.List.{AllByRecursion}
use Rattle.test_sets.specs.Children.{IsSomePattern}
use Rattle.test_sets.proofs.fitting.are_patterns_for.Given as goal

abbrev pub invariant-loop-pattern : goal.invariant-loop-pattern
invariant-loop-pattern l = AllByRecursion (IsSomePattern l.sig l.sort) (take l.pattern-index l.patterns)
