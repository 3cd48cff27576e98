-- The row of the step that puts a term for a variable that a premise equates to it: `solve`.
use Rattle.std.specs.Prelude.{◌≡◌, ℕ, [], ◌∷◌, false}
use Rattle.term_core.specs.Tree.{Tree, var, app}
use Rattle.term_core.specs.Variables.{Occurs}
use Rattle.spec_core.specs.declared.records.Equation.{Equation}
use Rattle.spec_core.specs.declared.records.Spec.{Spec}
use Rattle.spec_core.specs.Sig.{Sig}
use Rattle.spec_core.specs.WellSorted.{IsPattern}
use Rattle.clause_core.specs.declared.clauses.Clause.{Clause}
use Rattle.clause_core.specs.declared.clauses.Relation.TheVariants.{Less}
use Rattle.clause_core.specs.declared.answers.Why.TheVariants.{NoSuchPlace, DoesNotFit}
use Rattle.clause_core.specs.Instances.{with_term}
use Rattle.clause_core.specs.NumberedEquations.{EquationAt, exchanged}
use Rattle.clause_core.specs.Rows.{Row, child, needs, makes}

-- the sides are a variable and a term that is put for it; of two variables the left one is solved
abbrev pub Solves : Tree → Tree → ℕ → Tree → Type 0
Solves (var m) right n t = (n ≡ m) × (t ≡ right)
Solves (app f ts) (var m) n t = (n ≡ m) × (t ≡ app f ts)
Solves (app f ts) (app g us) n t = ⊥

-- an equation of a variable and a term without functions, in which the variable doesn't occur
pub record IsSolved (sig : Sig) (e : Equation) : Type 0 where
  pub variable : ℕ
  pub term : Tree
  pub solves : Solves e.left e.right variable term
  pub pattern : IsPattern sig term
  pub absent : Occurs variable term → ⊥

module _ (spec : Spec) (c : Clause) where
  abbrev pub solve_row : ℕ → Row
  solve_row number =
      needs (EquationAt c.premises number) NoSuchPlace (λ at.
      needs (IsSolved spec.sig at.equation) DoesNotFit (λ solved.
      makes (child Less (with_term c.ctx (exchanged false c at []) solved.variable solved.term)
      ∷ []) []))
