-- Places of a clause: a term in a side of an equation.
use Rattle.std.specs.Prelude.{◌≡◌, ℕ, ◌+◌, List, [], ◌∷◌, Bool, true, false, length}
use Rattle.term_core.specs.Tree.{Tree, list_of}
use Rattle.term_core.specs.Contexts.{Context, hole, under, plug}
use Rattle.spec_core.specs.declared.records.Equation.{Equation}
use Rattle.clause_core.specs.declared.clauses.Clause.{Clause}
use Rattle.clause_core.specs.declared.steps.Place.{Place}
use Rattle.clause_core.specs.NumberedEquations.{EquationAt, equations, exchanged}

-- the left side if true, the right one if false
abbrev pub side : Bool → Equation → Tree
side true e = e.left
side false e = e.right

abbrev pub with_side : Bool → Equation → Tree → Equation
with_side true e t = record { left = t; right = e.right }
with_side false e t = record { left = e.left; right = t }

-- the argument numbers on the way down to the hole, which count from 1
abbrev pub path_of : Context → List ℕ
path_of hole = []
path_of (under f before c after) = (length (list_of before) + 1) ∷ path_of c

-- the term at a place of the clause, with what is round it
pub record TermAt (c : Clause) (place : Place) : Type 0 where
  pub at : EquationAt (equations place.conclusion c) place.number
  pub round : Context
  pub term : Tree
  pub is : side place.left at.equation ≡ plug round term
  pub path : place.path ≡ path_of round

-- the clause whose place holds another term
abbrev pub holding : {c : Clause} {place : Place} → TermAt c place → Tree → Clause
holding {c} {place} p t =
    exchanged place.conclusion c p.at (with_side place.left p.at.equation (plug p.round t) ∷ [])
