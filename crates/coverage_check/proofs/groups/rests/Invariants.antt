use Rattle.std.proofs.Common.{◌≡◌, ◌++◌, drop}
use Rattle.coverage_check.specs.GuardLists.{lists_of, rests_wanting}
use Rattle.coverage_check.proofs.groups.rests.Given as goal

abbrev pub invariant-loop-list : goal.invariant-loop-list
invariant-loop-list l =
    lists_of l.made.items ++ rests_wanting l.wanted (lists_of (drop l.list-index l.lists)) ≡ rests_wanting
    l.wanted (lists_of l.lists)
