use Rattle.std.proofs.Common.{◌≡◌, take}
use Rattle.clause_core.specs.Instances.{variables}
use Rattle.script_trim.proofs.closing.are_variables.Given as goal

abbrev pub invariant-loop-number : goal.invariant-loop-number
invariant-loop-number l = take l.number l.terms ≡ variables 0 l.number
