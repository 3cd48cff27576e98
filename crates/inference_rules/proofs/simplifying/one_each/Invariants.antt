use Rattle.std.proofs.Common.{◌≡◌, [], ◌∷◌, true, map}
use Rattle.spec_core.specs.declared.records.Equation.{Equation}
use Rattle.clause_core.specs.NumberedEquations.{EquationAt, equations, exchanged}
use Rattle.inference_rules.proofs.simplifying.one_each.Given as goal

abbrev pub invariant-loop-part : goal.invariant-loop-part
invariant-loop-part l =
    (at : EquationAt (equations true l.clause) l.number) →
    l.made.items ≡ map (λ (e : Equation). exchanged true l.clause at (e ∷ [])) l.yielded
