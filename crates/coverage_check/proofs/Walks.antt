-- A walk over a list: what is made so far, before what is to come.
use Rattle.std.proofs.Common.{◌≡◌, ◌↔◌, ℕ, suc, ◌+◌, Bool, true, false, IsTrue, arith, ◌<◌, List, [], ◌∷◌, ◌++◌, map}
use Rattle.std.proofs.Common.{length, get_or, drop, refl, ap, sym, ◌∙◌}
use Rattle.std.specs.Prelude.{◌==◌}
use Rattle.std.proofs.lemmas.Bool.Decides.{nat_tests}
use Rattle.std.proofs.lemmas.List.{append_assoc, at_drop_more, map-append}

-- the item of this turn comes before those to come
pub at_item : {X : Type 0} (xs : List X) (i : ℕ) (x : X) → i < length xs → x ≡ get_or xs i x →
    drop i xs ≡ x ∷ drop (i + 1) xs
at_item xs i x h is = at_drop_more (λ ys. ys) xs i x h ∙ ap (λ y. y ∷ drop (i + 1) xs) (sym is)

pub map_push_before : {X Y : Type 0} (f : X → Y) (xs : List X) (y : X) (zs : List Y) →
    map f (xs ++ y ∷ []) ++ zs ≡ map f xs ++ f y ∷ zs
map_push_before f xs y zs = ap (λ ys. ys ++ zs) (map-append f xs (y ∷ [])) ∙ append_assoc (map f xs) (f y ∷ []) zs

-- the test whether a list is empty
pub empty_test : {X : Type 0} (xs : List X) (b : Bool) → b ≡ (length xs == 0) → IsTrue b ↔ (xs ≡ [])
empty_test [] b e = (λ h. refl, λ h. e)
empty_test (x ∷ xs) b e =
    let k : (suc (length xs) == 0) ≡ false = grind (arith, nat_tests) in
    (λ h. absurd (let q : b ≡ true = h in let r : b ≡ false = e ∙ k in cc), λ h. absurd (cc))
