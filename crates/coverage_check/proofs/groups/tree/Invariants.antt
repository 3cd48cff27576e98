use Rattle.std.proofs.Common.{◌≡◌, ◌++◌, drop}
use Rattle.coverage_check.specs.GroupTree.{numbered_guards}
use Rattle.coverage_check.specs.GuardLists.{lists_of, unnumbered}
use Rattle.coverage_check.proofs.groups.tree.Given as goal

abbrev pub invariant-loop-number : goal.invariant-loop-number
invariant-loop-number l =
    lists_of l.lists.items ++ unnumbered (numbered_guards l.spec (drop l.number-index l.group)) ≡ unnumbered
    (numbered_guards l.spec l.group)
