-- The rows of the steps that take an equation apart or out: `decompose`, `clash` and `drop`.
use Rattle.std.specs.Prelude.{◌≡◌, ℕ, List, [], ◌∷◌, Bool, true, false, map}
use Rattle.term_core.specs.Tree.{Trees, app, none, some}
use Rattle.spec_core.specs.declared.records.Equation.{Equation}
use Rattle.spec_core.specs.declared.records.Spec.{Spec}
use Rattle.spec_core.specs.Sig.{Sig, IsConstructor}
use Rattle.clause_core.specs.declared.clauses.Clause.{Clause}
use Rattle.clause_core.specs.declared.clauses.Relation.TheVariants.{Less}
use Rattle.clause_core.specs.declared.answers.Why.TheVariants.{NoSuchPlace, DoesNotFit}
use Rattle.clause_core.specs.NumberedEquations.{EquationAt, equations, exchanged}
use Rattle.clause_core.specs.Clashes.{Clash}
use Rattle.clause_core.specs.Rows.{Made, Row, child, needs, makes}

-- both sides have the same constructor as head
pub record SameHeads (sig : Sig) (e : Equation) : Type 0 where
  pub head : ℕ
  pub lefts : Trees
  pub rights : Trees
  pub constructor : IsConstructor sig head
  pub is_left : e.left ≡ app head lefts
  pub is_right : e.right ≡ app head rights

-- the equations of the arguments
abbrev pub pairs : Trees → Trees → List Equation
pairs (some t ts) (some u us) = record { left = t; right = u } ∷ pairs ts us
pairs none us = []
pairs (some t ts) none = []

module _ (spec : Spec) (c : Clause) where
  -- a premise is replaced, in its place, by all these equations, and a conclusion by each in a child
  abbrev pub taken_apart : (conclusion : Bool) {number : ℕ}
      → EquationAt (equations conclusion c) number → List Equation → List Made
  taken_apart false at es = child Less (exchanged false c at es) ∷ []
  taken_apart true at es = map (λ e. child Less (exchanged true c at (e ∷ []))) es

  abbrev pub decompose_row : Bool → ℕ → Row
  decompose_row conclusion number =
      needs (EquationAt (equations conclusion c) number) NoSuchPlace (λ at.
      needs (SameHeads spec.sig at.equation) DoesNotFit (λ heads.
      makes (taken_apart conclusion at (pairs heads.lefts heads.rights)) []))

  abbrev pub clash_row : ℕ → Row
  clash_row number =
      needs (EquationAt c.conclusions number) NoSuchPlace (λ at.
      needs (Clash spec.sig at.equation.left at.equation.right) DoesNotFit (λ clash.
      makes (child Less (exchanged true c at []) ∷ []) []))

  abbrev pub drop_row : Bool → ℕ → Row
  drop_row conclusion number =
      needs (EquationAt (equations conclusion c) number) NoSuchPlace (λ at.
      makes (child Less (exchanged conclusion c at []) ∷ []) [])
