use Rattle.std.proofs.Common.{◌≡◌}
use Rattle.clause_core.specs.Instances.{variables}
use Rattle.test_sets.proofs.sets.applied.Given as goal

abbrev pub invariant-loop-number : goal.invariant-loop-number
invariant-loop-number l = l.made ≡ variables 0 l.number
