use Rattle.std.proofs.Common.{◌≡◌, map, take}
use Rattle.clause_core.specs.Abstracting.{abstracted_equation}
use Rattle.inference_rules.proofs.generalizing.abstracted_equations.Given as goal

abbrev pub invariant-loop-equation : goal.invariant-loop-equation
invariant-loop-equation l = l.made.items ≡ map (abstracted_equation l.term l.var.0) (take l.equation-index l.equations)
