use Rattle.std.proofs.Common.{◌≡◌, map, take}
use Rattle.clause_core.specs.ClauseInstances.{equation_instance}
use Rattle.clause_core.proofs.instances.equation_instances.Given as goal

abbrev pub invariant-loop-equation : goal.invariant-loop-equation
invariant-loop-equation l = l.made.items ≡ map (equation_instance l.theta.terms) (take l.equation-index l.equations)
