-- Clauses within the limits and the terms that occur in them are small enough to be compared.
use Rattle.std.proofs.Common.{◌≡◌, ℕ, ◌+◌, ◌≤◌, List, [], ◌∷◌, ◌++◌, Bool, true, false, inl, inr, ap, ◌∙◌, arith}
use Rattle.term_core.specs.Tree.{Tree, trees_of, tree_size, sizes}
use Rattle.term_core.proofs.Members.{In, in_contained}
use Rattle.spec_core.specs.declared.records.Equation.{Equation}
use Rattle.clause_core.specs.declared.clauses.Clause.{Clause}
use Rattle.clause_core.specs.declared.steps.Place.{Place}
use Rattle.clause_core.specs.Clauses.{sides_of, sides}
use Rattle.clause_core.specs.Comparing.{IsTestable, SidesAreTestable}
use Rattle.clause_core.specs.Limits.{IsWithin, clause_size}
use Rattle.clause_core.specs.NumberedEquations.{EquationAt}
use Rattle.clause_core.specs.Places.{TermAt, side}
use Rattle.clause_core.proofs.Sides.{sides_append}
use Rattle.place_comparison.proofs.SizesRound.{sizes_append}
use Rattle.place_comparison.proofs.LimitsThere.{own_size}

size_in : (ts : List Tree) (t : Tree) → In t ts → tree_size t ≤ sizes (trees_of ts)
size_in [] t i = absurd i
size_in (u ∷ ts) t (inl e) = omega (arith, ap tree_size e)
size_in (u ∷ ts) t (inr i) = omega (arith, size_in ts t i)

pub within_testable : (c : Clause) → IsWithin c → SidesAreTestable c
within_testable c w = λ t i. omega (arith, size_in (sides c) t (in_contained (sides c) t i), w.size)

-- the size of the sides of the equations
equations_size : List Equation → ℕ
equations_size es = sizes (trees_of (sides_of es))

size_of_both : (es ds : List Equation) → equations_size (es ++ ds) ≡ equations_size es + equations_size ds
unfolding equations_size
size_of_both es ds = ap (λ ts. sizes (trees_of ts)) (sides_append es ds) ∙ sizes_append (sides_of es) (sides_of ds)

size_of_one : (e : Equation) → equations_size (e ∷ []) ≡ tree_size e.left + tree_size e.right
unfolding equations_size
size_of_one e = omega arith

size_of_first : (e : Equation) (es : List Equation) →
    equations_size (e ∷ es) ≡ tree_size e.left + tree_size e.right + equations_size es
unfolding equations_size
size_of_first e es = omega arith

size_of_clause : (c : Clause) → clause_size c ≡ equations_size c.premises + equations_size c.conclusions
unfolding equations_size
size_of_clause c = sizes_append (sides_of c.premises) (sides_of c.conclusions)

side_size : (left : Bool) (e : Equation) → tree_size (side left e) ≤ tree_size e.left + tree_size e.right
side_size true e = omega arith
side_size false e = omega arith

-- an equation of a list, and the list with another one there
part_size :
    (own before after : List Equation) (e : Equation) → own ≡ before ++ (e ∷ after) →
    equations_size own ≡ equations_size before + (tree_size e.left + tree_size e.right) + equations_size after
part_size own before after e is =
    ap equations_size is ∙ size_of_both before (e ∷ after) ∙ (let q = size_of_first e after in omega (arith, q))

equation_size : (own : List Equation) (number : ℕ) (at : EquationAt own number) →
    tree_size at.equation.left + tree_size at.equation.right ≤ equations_size own
equation_size own number at = omega (arith, part_size own at.before at.after at.equation at.is)

-- the term at a place
pub place_testable : (c : Clause) (place : Place) (at : TermAt c place) (t : Tree) → at.term ≡ t → IsWithin c →
    IsTestable t
place_testable c place at t is w = omega (arith, own_size c place at, w.size, ap tree_size is)

-- the sides of a premise, and of a clause's one conclusion
pub premise_side : (c : Clause) (number : ℕ) (at : EquationAt c.premises number) (left : Bool) → IsWithin c →
    IsTestable (side left at.equation)
premise_side c number at left w = omega (
  arith,
  side_size left at.equation,
  equation_size c.premises number at,
  size_of_clause c,
  w.size,
)

pub conclusion_side : (c : Clause) (e : Equation) (left : Bool) → c.conclusions ≡ e ∷ [] → IsWithin c →
    IsTestable (side left e)
conclusion_side c e left is w =
    omega (arith, side_size left e, ap equations_size is, size_of_one e, size_of_clause c, w.size)
