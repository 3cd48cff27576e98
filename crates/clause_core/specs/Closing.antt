-- The rows of the steps that close a node by its own equations: `trivial`, `match` and `absurd`.
use Rattle.std.specs.Prelude.{ℕ, []}
use Rattle.spec_core.specs.declared.records.Spec.{Spec}
use Rattle.clause_core.specs.declared.clauses.Clause.{Clause}
use Rattle.clause_core.specs.declared.answers.Why.TheVariants.{NoSuchPlace, DoesNotFit}
use Rattle.clause_core.specs.Equations.{IsEither, IsIdentity}
use Rattle.clause_core.specs.NumberedEquations.{EquationAt}
use Rattle.clause_core.specs.Rows.{Row, needs, makes}
use Rattle.clause_core.specs.Clashes.{Clash}

module _ (spec : Spec) (c : Clause) where
  -- a conclusion has identical sides
  abbrev pub trivial_row : ℕ → Row
  trivial_row number =
      needs (EquationAt c.conclusions number) NoSuchPlace (λ at.
      needs (IsIdentity at.equation) DoesNotFit (λ same.
      makes [] []))

  -- a conclusion is a premise
  abbrev pub match_row : ℕ → ℕ → Row
  match_row conclusion premise =
      needs (EquationAt c.conclusions conclusion × EquationAt c.premises premise) NoSuchPlace (λ at.
      needs (IsEither at.0.equation at.1.equation) DoesNotFit (λ same.
      makes [] []))

  -- a premise holds of no values
  abbrev pub absurd_row : ℕ → Row
  absurd_row number =
      needs (EquationAt c.premises number) NoSuchPlace (λ at.
      needs (Clash spec.sig at.equation.left at.equation.right) DoesNotFit (λ clash.
      makes [] []))
