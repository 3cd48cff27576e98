use Rattle.std.proofs.Common.{◌≡◌, map, take}
use Rattle.spec_core.specs.Order.{constructors_of}
use Rattle.test_sets.specs.TestSets.{applied}
use Rattle.test_sets.proofs.sets.test_set.Given as goal

abbrev pub invariant-loop-sym : goal.invariant-loop-sym
invariant-loop-sym l = l.made.items ≡ map applied (take l.sym-index (constructors_of l.sig l.fn.sort))
