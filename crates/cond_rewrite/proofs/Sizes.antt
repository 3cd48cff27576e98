-- A clause is at least as large as a term that it holds, and as equations that are added to it.
use Rattle.std.proofs.Common.{◌≡◌, ℕ, zero, suc, ◌+◌, ◌<◌, ◌≤◌, List, [], ◌∷◌, ◌++◌, Bool, true, false, Option, map}
use Rattle.std.proofs.Common.{length, get_or, ap, ◌∙◌, arith}
use Rattle.term_core.specs.Tree.{Tree, Trees, none, some, trees_of, tree_size, sizes}
use Rattle.term_core.specs.Contexts.{Context, hole, under, around, plug}
use Rattle.spec_core.specs.declared.records.Equation.{Equation}
use Rattle.spec_core.specs.declared.records.Guard.{Guard}
use Rattle.substitutions.specs.Substitution.{apply}
use Rattle.clause_core.specs.declared.clauses.Clause.{Clause}
use Rattle.clause_core.specs.declared.steps.Place.{Place}
use Rattle.clause_core.specs.Clauses.{sides_of}
use Rattle.clause_core.specs.Limits.{clause_size, IsWithin}
use Rattle.clause_core.specs.Tidied.{tidied}
use Rattle.clause_core.specs.NumberedEquations.{EquationAt, equations, exchanged}
use Rattle.clause_core.specs.Places.{TermAt, with_side, holding}
use Rattle.clause_core.specs.CaseSplitting.{with_premises}
use Rattle.clause_core.proofs.Sides.{sides_append}
use Rattle.clause_core.proofs.TidiedLimits.{tidied_within}
use Rattle.cond_rewrite.specs.Applied.{applied_guard}

size_around : (before : Trees) (t : Tree) (after : Trees) → tree_size t ≤ sizes (around before t after)
size_around none t after = omega arith
size_around (some b before) t after = omega (arith, size_around before t after)

size_plug : (c : Context) (t : Tree) → tree_size t ≤ tree_size (plug c t)
size_plug hole t = omega arith
size_plug (under f before c after) t = omega (arith, size_plug c t, size_around before (plug c t) after)

-- the size of the sides of equations
abbrev pub size_of : List Equation → ℕ
size_of es = sizes (trees_of (sides_of es))

sizes_append : (xs ys : List Tree) → sizes (trees_of (xs ++ ys)) ≡ sizes (trees_of xs) + sizes (trees_of ys)
sizes_append [] ys = omega arith
sizes_append (x ∷ xs) ys = omega (arith, sizes_append xs ys)

size_append : (es ds : List Equation) → size_of (es ++ ds) ≡ size_of es + size_of ds
size_append es ds = ap (λ ts. sizes (trees_of ts)) (sides_append es ds) ∙ sizes_append (sides_of es) (sides_of ds)

clause_size_is : (c : Clause) → clause_size c ≡ size_of c.premises + size_of c.conclusions
clause_size_is c = sizes_append (sides_of c.premises) (sides_of c.conclusions)

size_with_side : (left : Bool) (e : Equation) (t : Tree) → tree_size t ≤ size_of (with_side left e t ∷ [])
size_with_side true e t = omega arith
size_with_side false e t = omega arith

size_between : (es ds gs : List Equation) → size_of ds ≤ size_of (es ++ (ds ++ gs))
size_between es ds gs = omega (arith, size_append es (ds ++ gs), size_append ds gs)

size_exchanged : (kind : Bool) (c : Clause) (n : ℕ) (at : EquationAt (equations kind c) n)
    (es : List Equation) → size_of es ≤ clause_size (exchanged kind c at es)
size_exchanged true c n at es = omega (
  arith,
  clause_size_is (exchanged true c at es),
  size_between at.before es at.after,
)
size_exchanged false c n at es = omega (
  arith,
  clause_size_is (exchanged false c at es),
  size_between at.before es at.after,
)

size_holding : (c : Clause) (place : Place) (p : TermAt c place) (t : Tree) → tree_size t ≤ clause_size (holding p t)
size_holding c place p t =
    omega (
      arith,
      size_plug p.round t,
      size_with_side place.left p.at.equation (plug p.round t),
      size_exchanged place.conclusion c place.number p.at (with_side place.left p.at.equation (plug p.round t) ∷ []),
    )

size_with_premises : (c : Clause) (es : List Equation) → clause_size (with_premises c es) ≡ clause_size c + size_of es
size_with_premises c es = omega (
  arith,
  clause_size_is (with_premises c es),
  clause_size_is c,
  size_append c.premises es,
)

not_within : (c : Clause) → 4000 < clause_size c → IsWithin (tidied c) → ⊥
not_within c large w = let s : clause_size c ≤ 4000 = ((tidied_within c).0 w).size in omega arith

-- a clause that holds a large term passes the limits, also with further premises
pub held_too_large : (c : Clause) (place : Place) (p : TermAt c place) (t : Tree) → 4000 < tree_size t →
    IsWithin (tidied (holding p t)) → ⊥
held_too_large c place p t large = not_within (holding p t) (omega (arith, large, size_holding c place p t))

pub split_too_large : (c : Clause) (place : Place) (p : TermAt c place) (t : Tree) (es : List Equation) →
    4000 < tree_size t → IsWithin (tidied (with_premises (holding p t) es)) → ⊥
split_too_large c place p t es large = not_within (with_premises (holding p t) es)
    (omega (arith, large, size_holding c place p t, size_with_premises (holding p t) es))

-- and so does one with large further premises
pub premises_too_large : (d : Clause) (es : List Equation) → 4000 < size_of es →
    IsWithin (tidied (with_premises d es)) → ⊥
premises_too_large d es large = not_within (with_premises d es) (omega (arith, large, size_with_premises d es))

-- the instance of one guard is no larger than those of all
pub guard_size : (s : List (Option Tree)) (gs : List Guard) (i : ℕ) (g : Guard) → i < length gs →
    g ≡ get_or gs i g → tree_size (apply s g.test) ≤ size_of (map (applied_guard s) gs)
guard_size s [] i g lt is = absurd (omega arith)
guard_size s (x ∷ gs) zero g lt is = let e : tree_size (apply s g.test) ≡ tree_size (apply s x.test) = ap
    (λ (y : Guard). tree_size (apply s y.test)) is in omega (arith, e)
guard_size s (x ∷ gs) (suc i) g lt is = omega (arith, guard_size s gs i g (omega arith) is)
