-- References to terms: one taken out of a list, and one more of a list.
use Rattle.std.proofs.Common.{◌≡◌, ◌==◌, true, false, refl, ℕ, zero, suc, ◌+◌, ◌<◌, List, [], ◌∷◌, ◌++◌, Some, None}
use Rattle.std.proofs.Common.{length, take, get_or, ap, sym, ◌∙◌, subst, arith}
use Rattle.std.specs.Prelude.{slice_get, IsPermutation}
use Rattle.std.specs.List.{swap_remove}
use Rattle.std.specs.Borrow.{Bor}
use Rattle.std.proofs.lemmas.Bool.Decides.{nat_tests}
use Rattle.std.proofs.lemmas.List.{map-append, length-map}
use Rattle.std.proofs.lemmas.List.Sorted.{IsPermutation-swap_remove, IsPermutation-map}
use Rattle.std.proofs.lemmas.Option.{slice_get_within}
use Rattle.term_core.specs.Tree.{Tree}
use Rattle.term_core.specs.References.{terms_of}
use Rattle.term_core.proofs.Items.{taken_next}

term_at : (bs : List (Bor Tree)) (i : ℕ) (b : Bor Tree) (t : Tree) → b ≡ get_or bs i b →
    slice_get (terms_of bs) i ≡ Some t → b.now ≡ t
term_at [] i b t is at = absurd (let q : None ≡ Some t = at in cc)
term_at (a ∷ bs) zero b t is at = ap (λ (x : Bor Tree). x.now) is ∙ (let q : Some a.now ≡ Some t = at in cc)
term_at (a ∷ bs) (suc i) b t is at = term_at bs i b t is at

pub taken_out :
    (bs news : List (Bor Tree)) (i : ℕ) (b : Bor Tree) (t : Tree) → b ≡ get_or bs i b →
    slice_get (terms_of bs) i ≡ Some t → news ≡ swap_remove bs i b → IsPermutation (terms_of bs) (t ∷ terms_of news)
taken_out bs news i b t is at new =
    let within : i < length bs = omega (
      arith,
      slice_get_within (terms_of bs) i t at,
      length-map bs (λ (x : Bor Tree). x.now),
    ) in
    let p : IsPermutation (terms_of bs) (b.now ∷ terms_of (swap_remove bs i b)) = IsPermutation-map
    (λ (x : Bor Tree). x.now) bs (b ∷ swap_remove bs i b) (IsPermutation-swap_remove bs i b within is) in
    let q : IsPermutation (terms_of bs) (t ∷ terms_of (swap_remove bs i b)) = subst
    (λ u. IsPermutation (terms_of bs) (u ∷ terms_of (swap_remove bs i b))) (term_at bs i b t is at) p in
    subst (λ us. IsPermutation (terms_of bs) (t ∷ terms_of us)) (sym new) q

pub terms_next :
    (bs : List (Bor Tree)) (i : ℕ) (b : Bor Tree) → i < length bs → b ≡ get_or bs i b →
    terms_of (take (i + 1) bs) ≡ terms_of (take i bs) ++ b.now ∷ []
terms_next bs i b lt is = ap terms_of (taken_next bs i b lt is)
    ∙ map-append (λ (x : Bor Tree). x.now) (take i bs) (b ∷ [])

pub terms_more : (bs news : List (Bor Tree)) (b : Bor Tree) → news ≡ bs ++ b ∷ [] → terms_of news ≡ terms_of bs
    ++ b.now ∷ []
terms_more bs news b e = ap terms_of e ∙ map-append (λ (x : Bor Tree). x.now) bs (b ∷ [])

-- the test whether there are no terms
pub no_terms : (bs : List (Bor Tree)) → (length bs == 0) ≡ true → terms_of bs ≡ []
no_terms [] e = refl
no_terms (b ∷ bs) e = absurd (grind (arith, nat_tests, e))

pub some_terms : (bs : List (Bor Tree)) → (length bs == 0) ≡ false → terms_of bs ≡ [] → ⊥
some_terms [] e p = cc
some_terms (b ∷ bs) e p = let q : ◌≡◌ {A = List Tree} (b.now ∷ terms_of bs) [] = p in cc
