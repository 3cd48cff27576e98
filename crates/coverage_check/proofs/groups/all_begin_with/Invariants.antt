use Rattle.std.proofs.Common.{drop, ◌↔◌}
use Rattle.std.specs.List.{AllByRecursion}
use Rattle.spec_core.specs.Groups.{BeginsWith}
use Rattle.coverage_check.specs.GuardLists.{lists_of}
use Rattle.coverage_check.proofs.groups.all_begin_with.Given as goal

abbrev pub invariant-loop-list : goal.invariant-loop-list
invariant-loop-list l =
    AllByRecursion (BeginsWith l.test) (lists_of l.lists) ↔ AllByRecursion (BeginsWith l.test)
    (lists_of (drop l.list-index l.lists))
