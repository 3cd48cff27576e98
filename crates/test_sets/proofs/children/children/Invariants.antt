use Rattle.std.proofs.Common.{◌≡◌, map, take}
use Rattle.std.specs.List.{AllByRecursion}
use Rattle.clause_core.specs.Limits.{IsWithin}
use Rattle.test_sets.specs.Children.{child_by}
use Rattle.test_sets.proofs.children.children.Given as goal

abbrev pub invariant-loop-pattern : goal.invariant-loop-pattern
invariant-loop-pattern l =
    (l.made.items ≡ map (child_by l.sig l.clause l.var.0 l.sort) (take l.pattern-index l.patterns))
    × AllByRecursion IsWithin l.made.items
