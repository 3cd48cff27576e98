use Rattle.std.proofs.Common.{◌≡◌, map, take}
use Rattle.open_evaluation.specs.Shifted.{shifted_equation}
use Rattle.open_evaluation.proofs.rules.shift_equations.Given as goal

abbrev pub invariant-loop-equation : goal.invariant-loop-equation
invariant-loop-equation l = l.made ≡ map (shifted_equation l.constructors l.constants)
    (take l.equation-index l.equations)
