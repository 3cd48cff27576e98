use Rattle.coverage_check.specs.GuardLists.{lists_of}
use Rattle.coverage_check.proofs.GuardLists.{guard_count}
use Rattle.coverage_check.proofs.groups.+are_whole.Given as goal

abbrev pub decreases-are_whole : goal.decreases-are_whole
decreases-are_whole l = guard_count (lists_of l.lists.now)
