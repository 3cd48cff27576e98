use Rattle.std.proofs.Common.{take}
use Rattle.term_core.specs.Tree.{trees_of}
use Rattle.spec_core.specs.Small.{AreSmall}
use Rattle.coverage_check.proofs.naming.smalls.Given as goal

abbrev pub invariant-loop-sort : goal.invariant-loop-sort
invariant-loop-sort l = AreSmall l.sig (take l.sort-index l.sorts) (trees_of l.made)
