-- Where the leading equation of a clause is.
use Rattle.std.specs.Prelude.{◌≡◌, Bool, List, [], ◌∷◌, Option, Some, MatchOption, filter, take, slice_get}
use Rattle.spec_core.specs.declared.records.Equation.{Equation}
use Rattle.clause_core.specs.declared.clauses.Clause.{Clause}
use Rattle.clause_core.specs.NumberedEquations.{equations}
use Rattle.fitting_lists.specs.Fitting.{both_sides, has_all, leading}
use Rattle.fitting_lists.specs.Spines.{spine_of}
use Rattle.fitting_lists.specs.declared.leading_equations.LeadingPlace.{LeadingPlace}

-- the spines of the sides are kept
pub record HasSpines (e : Equation) (place : LeadingPlace) : Type 0 where
  pub left : place.left ≡ spine_of e.left
  pub right : place.right ≡ spine_of e.right

-- the equation that is there leads
pub record LeadsFrom (c : Clause) (place : LeadingPlace) : Type 0 where
  pub equation : Equation
  pub there : slice_get (equations place.conclusion c) place.index ≡ Some equation
  pub leads :
      leading c ≡ record { conclusion = place.conclusion; equation = equation } ∷ []
  pub spines : HasSpines equation place

-- the place of the leading equation, or that there is none
abbrev pub IsPlace : Clause → Option LeadingPlace → Type 0
IsPlace c found = MatchOption found (leading c ≡ []) (LeadsFrom c)

-- the conclusions, or the premises, in which all variables of the clause are
abbrev pub with_all : Clause → Bool → List Equation
with_all c conclusion =
    filter (λ (e : Equation). has_all c (both_sides e)) (equations conclusion c)

-- the first of them is there
pub record FirstStands (c : Clause) (conclusion : Bool) (place : LeadingPlace) : Type 0 where
  pub equation : Equation
  pub there : slice_get (equations conclusion c) place.index ≡ Some equation
  pub first : take 1 (with_all c conclusion) ≡ equation ∷ []
  pub kind : place.conclusion ≡ conclusion
  pub spines : HasSpines equation place

-- the place of the first of them, or that there is none
abbrev pub IsFirstWithAll : Clause → Bool → Option LeadingPlace → Type 0
IsFirstWithAll c conclusion found =
    MatchOption found (with_all c conclusion ≡ []) (FirstStands c conclusion)
