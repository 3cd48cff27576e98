-- Laws of the table, for an order on terms.
use Rattle.std.specs.Prelude.{◌≡◌, ℕ, List, Contains, Result}
use Rattle.term_core.specs.Tree.{Tree}
use Rattle.term_core.specs.Contexts.{plug}
use Rattle.term_core.specs.Places.{IsAt, IsReplaced}
use Rattle.spec_core.specs.declared.records.Spec.{Spec}
use Rattle.spec_core.specs.WellSorted.{IsWellSorted}
use Rattle.clause_core.specs.declared.clauses.Clause.{Clause}
use Rattle.clause_core.specs.declared.steps.Place.{Place}
use Rattle.clause_core.specs.declared.steps.Step.{Step}
use Rattle.clause_core.specs.declared.answers.Children.{Children}
use Rattle.clause_core.specs.declared.answers.Why.{Why}
use Rattle.clause_core.specs.NumberedEquations.{EquationAt, equations}
use Rattle.clause_core.specs.Places.{TermAt, side}
use Rattle.clause_core.specs.Says.{Says}
use Rattle.clause_core.specs.Steps.{row_of}

-- a step at a node has at most one answer: what it makes, or one reason
abbrev pub OneAnswer : (Tree → Tree → Type 0) → Type 0
OneAnswer above =
    (spec : Spec) (numbers : List ℕ) (nodes : List Clause) (c : Clause) (step : Step)
    (a b : Result Children Why) → IsWellSorted spec →
    Says above c nodes (row_of spec (Contains numbers) nodes c step) a →
    Says above c nodes (row_of spec (Contains numbers) nodes c step) b → a ≡ b

-- a place by a context is one by a path: the same terms are there, and the same is made when a
-- term is exchanged
pub record PlacesAgree (c : Clause) (place : Place) : Type 0 where
  pub stands : (p : TermAt c place) → IsAt place.path (side place.left p.at.equation) p.term
  pub is_there :
      (at : EquationAt (equations place.conclusion c) place.number) (t : Tree) →
      IsAt place.path (side place.left at.equation) t →
      (p : TermAt c place) × (p.at ≡ at) × (p.term ≡ t)
  pub exchanges :
      (p : TermAt c place) (new : Tree) →
      IsReplaced place.path (side place.left p.at.equation) new (plug p.round new)

abbrev pub AllPlacesAgree : Type 0
AllPlacesAgree = (c : Clause) (place : Place) → PlacesAgree c place
