-- Places of clauses with few equations.
use Rattle.std.proofs.Common.{◌≡◌, ℕ, ◌+◌, List, [], ◌∷◌, ◌++◌, true, refl, ap, arith, length}
use Rattle.std.proofs.lemmas.List.{length-append}
use Rattle.term_core.specs.declared.ids.SortId.{SortId}
use Rattle.term_core.specs.Contexts.{hole}
use Rattle.spec_core.specs.declared.records.Equation.{Equation}
use Rattle.clause_core.specs.NumberedEquations.{EquationAt}
use Rattle.clause_core.specs.Places.{TermAt}
use Rattle.clause_core.specs.ExampleClauses.{conclusion_side}
use Rattle.clause_core.proofs.OnePlace.{equation_one}

abbrev pub first : (e : Equation) (es : List Equation) → EquationAt (e ∷ es) 1
first e es = record { before = []; equation = e; after = es; is = refl; place = refl }

pub first_is : (e : Equation) (es : List Equation) (at : EquationAt (e ∷ es) 1) → at.equation ≡ e
first_is e es at = (equation_one (e ∷ es) 1 at (first e es)).1

-- the whole left side of the only conclusion
abbrev pub left_side : (ctx : List SortId) (premises : List Equation) (e : Equation) →
    TermAt (record { ctx = ctx; premises = premises; conclusions = e ∷ [] }) (conclusion_side true [])
left_side ctx premises e = record { at = first e []; round = hole; term = e.left; is = refl; path = refl }

-- the number of an equation is 1 at least, and the number of equations at most
pub number_in_range : (own : List Equation) (n : ℕ) (at : EquationAt own n) →
    length at.before + (length at.after + 1) ≡ length own
number_in_range own n at =
    let q : length own ≡ length (at.before ++ (at.equation ∷ at.after)) = ap (λ (es : List Equation). length es)
    at.is in
    omega (arith, q, length-append at.before (at.equation ∷ at.after))
