use Rattle.std.proofs.Common.{◌≡◌}
use Rattle.clause_core.specs.Instances.{variables}
use Rattle.script_trim.proofs.closing.own_variables.Given as goal

abbrev pub invariant-loop-number : goal.invariant-loop-number
invariant-loop-number l = l.made.items ≡ variables 0 l.number
