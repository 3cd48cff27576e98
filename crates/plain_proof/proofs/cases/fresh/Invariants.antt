use Rattle.std.proofs.Common.{◌≡◌}
use Rattle.clause_core.specs.Instances.{variables}
use Rattle.plain_proof.proofs.cases.fresh.Given as goal

abbrev pub invariant-loop-number : goal.invariant-loop-number
invariant-loop-number l = l.made ≡ variables l.fn.from l.number
