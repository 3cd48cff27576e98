-- A place by a context is a place by a path, and so is the exchange of a term there.
use Rattle.std.proofs.Common.{◌≡◌, ℕ, zero, suc, ◌+◌, List, [], ◌∷◌, Some, None, refl, ap, sym, ◌∙◌, subst, arith}
use Rattle.std.proofs.Common.{length}
use Rattle.std.specs.Prelude.{slice_get, slice_set}
use Rattle.term_core.specs.Tree.{Tree, Trees, var, app, none, some, list_of, trees_of}
use Rattle.term_core.specs.Places.{IsAt, IsReplaced}
use Rattle.term_core.proofs.Trees.{trees_of-list_of}
use Rattle.term_core.specs.Contexts.{Context, hole, under, around, plug}
use Rattle.clause_core.specs.declared.clauses.Clause.{Clause}
use Rattle.clause_core.specs.declared.steps.Place.{Place}
use Rattle.clause_core.specs.NumberedEquations.{EquationAt, equations}
use Rattle.clause_core.specs.Places.{TermAt, side, path_of}

get_around : (before : Trees) (t : Tree) (after : Trees) →
    slice_get (list_of (around before t after)) (length (list_of before)) ≡ Some t
get_around none t after = refl
get_around (some b before) t after = get_around before t after

set_around : (before : Trees) (t u : Tree) (after : Trees) →
    around before u after ≡ trees_of (slice_set (list_of (around before t after)) (length (list_of before)) u)
set_around none t u after = ap (λ us. some u us) (sym (trees_of-list_of after))
set_around (some b before) t u after = ap (λ us. some b us) (set_around before t u after)

-- the arguments round one of them
split_at : (ts : Trees) (k : ℕ) (t : Tree) → slice_get (list_of ts) k ≡ Some t →
    (before : Trees) × (after : Trees) × (ts ≡ around before t after) × (length (list_of before) ≡ k)
split_at none k t at = absurd (let q : None ≡ Some t = at in cc)
split_at (some u us) zero t at = let q : Some u ≡ Some t = at in let e : u ≡ t = cc in
    (none, us, (λ i. some (e i) us), refl)
split_at (some u us) (suc k) t at = let r = split_at us k t at in
    (some u r.0, r.1, (let e : us ≡ around r.0 t r.1 = r.2 in λ i. some u (e i)), omega (arith, r.3))

-- what a context is round is at its path
pub at_plug : (c : Context) (t : Tree) → IsAt (path_of c) (plug c t) t
at_plug hole t = refl
at_plug (under f before c after) t = (
  plug c t,
  (length (list_of before), refl, get_around before (plug c t) after),
  at_plug c t,
)

-- what is at a path has a context round it
pub context_at : (path : List ℕ) (t s : Tree) → IsAt path t s → (c : Context) × (t ≡ plug c s) × (path ≡ path_of c)
context_at [] t s at = (hole, sym at, refl)
context_at (n ∷ path) (var m) s at = absurd at
context_at (n ∷ path) (app f ts) s (t, (k, e, get), rest) =
    let p = split_at ts k t get in
    let r = context_at path t s rest in
    let term : app f ts ≡ app f (around p.0 (plug r.0 s) p.1) = ap (λ us. app f us) p.2
    ∙ ap (λ u. app f (around p.0 u p.1)) r.1 in
    let number : n ≡ length (list_of p.0) + 1 = omega (arith, e, p.3) in
    let ways : path ≡ path_of r.0 = r.2 in
    (under f p.0 r.0 p.1, term, λ i. number i ∷ ways i)

pub replaced_plug : (c : Context) (t new : Tree) → IsReplaced (path_of c) (plug c t) new (plug c new)
replaced_plug hole t new = refl
replaced_plug (under f before c after) t new = (
  plug c t,
  plug c new,
  around before (plug c new) after,
  (length (list_of before), refl, get_around before (plug c t) after),
  replaced_plug c t new,
  (length (list_of before), refl, set_around before (plug c t) (plug c new) after),
  refl,
)

-- the term at a place is at its path, and the place is there wherever a term is at the path
pub term_is_at : (c : Clause) (place : Place) (p : TermAt c place) →
    IsAt place.path (side place.left p.at.equation) p.term
term_is_at c place p = subst (λ path. IsAt path (side place.left p.at.equation) p.term) (sym p.path)
    (subst (λ t. IsAt (path_of p.round) t p.term) (sym p.is) (at_plug p.round p.term))

pub term_at : (c : Clause) (place : Place) (at : EquationAt (equations place.conclusion c) place.number)
    (t : Tree) → IsAt place.path (side place.left at.equation) t → (p : TermAt c place) × (p.at ≡ at) × (p.term ≡ t)
term_at c place at t h = let r = context_at place.path (side place.left at.equation) t h in
    (record { at = at; round = r.0; term = t; is = r.1; path = r.2 }, refl, refl)

pub term_is_replaced : (c : Clause) (place : Place) (p : TermAt c place) (new : Tree) →
    IsReplaced place.path (side place.left p.at.equation) new (plug p.round new)
term_is_replaced c place p new = subst (λ path. IsReplaced path (side place.left p.at.equation) new
    (plug p.round new)) (sym p.path) (subst (λ t. IsReplaced (path_of p.round) t new (plug p.round new))
    (sym p.is) (replaced_plug p.round p.term new))
