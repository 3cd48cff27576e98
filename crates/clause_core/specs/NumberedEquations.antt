-- Equations of a clause by their numbers, which count from 1.
use Rattle.std.specs.Prelude.{◌≡◌, ℕ, ◌+◌, List, ◌∷◌, ◌++◌, Bool, true, false, length}
use Rattle.spec_core.specs.declared.records.Equation.{Equation}
use Rattle.clause_core.specs.declared.clauses.Clause.{Clause}

-- the equation with this number in a list, with what comes before it and after it
pub record EquationAt (own : List Equation) (number : ℕ) : Type 0 where
  pub before : List Equation
  pub equation : Equation
  pub after : List Equation
  pub is : own ≡ before ++ (equation ∷ after)
  pub place : number ≡ length before + 1

-- the conclusions if true, the premises if false
abbrev pub equations : Bool → Clause → List Equation
equations true c = c.conclusions
equations false c = c.premises

-- the clause with other conclusions, or with other premises
abbrev pub with_equations : Bool → Clause → List Equation → Clause
with_equations true c es = record { ctx = c.ctx; premises = c.premises; conclusions = es }
with_equations false c es = record { ctx = c.ctx; premises = es; conclusions = c.conclusions }

-- the clause with these equations in the place of the one that is there
abbrev pub exchanged :
    (conclusion : Bool) (c : Clause) {number : ℕ} →
    EquationAt (equations conclusion c) number → List Equation → Clause
exchanged conclusion c at es = with_equations conclusion c (at.before ++ (es ++ at.after))
