-- Patterns by references, as calls go through them.
use Rattle.std.proofs.Common.{◌≡◌, ℕ, zero, suc, ◌<◌, ◌≤◌, List, [], ◌∷◌, Bool, true, false, ◌||◌, ◌==◌, Option, Some}
use Rattle.std.proofs.Common.{None, inl, inr, refl, ap, sym, ◌∙◌, arith, length, get_or}
use Rattle.std.specs.Prelude.{slice_get, MatchOption}
use Rattle.std.specs.Borrow.{Bor}
use Rattle.std.proofs.lemmas.Bool.Decides.{eqb_tells}
use Rattle.std.proofs.lemmas.Option.{slice_get_past}
use Rattle.term_core.specs.References.{terms_of}
use Rattle.term_core.specs.Tree.{Tree, app, trees_of}
use Rattle.term_core.proofs.Trees.{list_of-trees_of}
use Rattle.spec_core.specs.Sig.{Sig}
use Rattle.clause_places.specs.Asked.{constructor_at}
use Rattle.clause_places.specs.Demand.{argument_at, some_look_at}

either_true : (b : Bool) → (b || true) ≡ true
either_true true = refl
either_true false = refl

-- if one of them has a constructor, some have
pub some_at :
    (sig : Sig) (items : List (Bor Tree)) (k : ℕ) (b : Bor Tree) → k < length items →
    b ≡ get_or items k b → constructor_at sig [] (Some b.now) ≡ true →
    some_look_at sig (terms_of items) [] ≡ true
some_at sig [] k b lt is h = absurd (omega arith)
some_at sig (x ∷ items) zero b lt is h =
    ap (λ y. y || some_look_at sig (terms_of items) [])
    (ap (λ (y : Bor Tree). constructor_at sig [] (Some y.now)) (sym is) ∙ h)
some_at sig (x ∷ items) (suc k) b lt is h =
    let here : Bool = constructor_at sig [] (Some x.now) in
    ap (λ y. here || y) (some_at sig items k b (omega arith) is h) ∙ either_true here

-- if there is no reference, there is no term
pub no_terms :
    (items : List (Bor Tree)) (ts : List Tree) (empty : Bool) → terms_of items ≡ ts →
    empty ≡ (length items == 0) → empty ≡ true → ts ≡ []
no_terms [] ts empty e is h = sym e
no_terms (x ∷ items) ts empty e is h =
    elim (eqb_tells (suc (length items)) 0) [
      | inl p ↦ absurd (omega (arith, p.1))
      | inr p ↦ absurd (let q : false ≡ true = sym p.0 ∙ sym is ∙ h in cc)
    ]

-- an argument of a call, by its list of arguments
pub argument_got :
    (o : Option (Bor Tree)) (ts : List Tree) (k f : ℕ) (t : Tree) → app f (trees_of ts) ≡ t →
    MatchOption o (length ts ≤ k) (λ b. slice_get ts k ≡ Some b.now) →
    MatchOption o (argument_at k t ≡ None) (λ b. argument_at k t ≡ Some b.now)
argument_got None ts k f t e past =
    ap (argument_at k) (sym e)
    ∙ ap (λ us. slice_get us k) (list_of-trees_of ts)
    ∙ slice_get_past ts k past
argument_got (Some b) ts k f t e at =
    ap (argument_at k) (sym e) ∙ ap (λ us. slice_get us k) (list_of-trees_of ts) ∙ at
