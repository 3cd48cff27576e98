use Rattle.std.proofs.Common.{◌⊎◌, map, take}
use Rattle.std.specs.List.{AllByRecursion}
use Rattle.spec_core.specs.declared.records.Equation.{Equation}
use Rattle.clause_core.specs.ClauseInstances.{equation_instance}
use Rattle.clause_core.specs.Equations.{Among, IsIdentity}
use Rattle.inference_rules.proofs.referring.instances_are_there.Given as goal

abbrev pub invariant-loop-premise : goal.invariant-loop-premise
invariant-loop-premise l =
    AllByRecursion (λ (e : Equation). Among e l.here.premises ⊎ IsIdentity e)
    (map (equation_instance l.theta.terms) (take l.premise-index l.clause.premises))
