-- None of the equations so far has all variables.
use Rattle.std.proofs.Common.{◌≡◌, [], take}
use Rattle.std.specs.Prelude.{filter}
use Rattle.spec_core.specs.declared.records.Equation.{Equation}
use Rattle.fitting_lists.specs.Fitting.{both_sides, has_all}
use Rattle.fitting_lists.proofs.leading_equations.first_with_all.Given as goal

abbrev pub invariant-loop-index : goal.invariant-loop-index
invariant-loop-index l =
    filter (λ (e : Equation). has_all l.clause (both_sides e)) (take l.index l.equations) ≡ []
