use Rattle.std.proofs.Common.{◌≡◌}
use Rattle.clause_core.specs.Instances.{variables}
use Rattle.sample_values.proofs.sides.applied.Given as goal

abbrev pub invariant-loop-number : goal.invariant-loop-number
invariant-loop-number l = l.args.items ≡ variables 0 l.number
