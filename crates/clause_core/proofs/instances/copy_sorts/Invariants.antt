use Rattle.std.proofs.Common.{◌≡◌, take}
use Rattle.clause_core.proofs.instances.copy_sorts.Given as goal

abbrev pub invariant-loop-sort : goal.invariant-loop-sort
invariant-loop-sort l = l.made.items ≡ take l.sort-index l.sorts
