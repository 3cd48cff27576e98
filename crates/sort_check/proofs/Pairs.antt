-- Lists whose elements go together in pairs.
use Rattle.std.proofs.Common.{◌≡◌, ℕ, zero, suc, ◌+◌, ◌<◌, ◌≤◌, List, [], ◌∷◌, ◌++◌, Some, None, refl, ap, sym, ◌∙◌}
use Rattle.std.proofs.Common.{subst, arith, get_or, length, take}
use Rattle.std.specs.Prelude.{slice_get}
use Rattle.std.specs.List.{AllByRecursion, AllZip}
use Rattle.std.proofs.lemmas.List.{take_all, take_more}

module _ {X Y : Type 0} (R : X → Y → Type 0) where
  -- one more pair
  pub pairs_more : (xs : List X) (ys : List Y) (x : X) (y : Y) → AllZip R xs ys → R x y →
      AllZip R (xs ++ x ∷ []) (ys ++ y ∷ [])
  pairs_more [] [] x y all one = (one, tt)
  pairs_more (a ∷ xs) (b ∷ ys) x y all one = (all.0, pairs_more xs ys x y all.1 one)
  pairs_more [] (b ∷ ys) x y all one = absurd all
  pairs_more (a ∷ xs) [] x y all one = absurd all

  -- the partner of an element
  pub pairs_at : (xs : List X) (ys : List Y) (i : ℕ) (x : X) → AllZip R xs ys → i < length xs →
      x ≡ get_or xs i x → (y : Y) × R x y
  pairs_at [] ys i x all lt is = absurd (omega arith)
  pairs_at (a ∷ xs) [] i x all lt is = absurd all
  pairs_at (a ∷ xs) (b ∷ ys) zero x all lt is = (b, subst (λ z. R z b) (sym is) all.0)
  pairs_at (a ∷ xs) (b ∷ ys) (suc i) x all lt is = pairs_at xs ys i x all.1 (omega arith) is

  -- a loop over the first list that makes the second
  module _ (xs : List X) (i : ℕ) where
    pub pairs_next : (x : X) (ys zs : List Y) (y : Y) → i < length xs → x ≡ get_or xs i x →
        AllZip R (take i xs) ys → R x y → zs ≡ ys ++ y ∷ [] → AllZip R (take (i + 1) xs) zs
    pairs_next x ys zs y lt is all one made =
        let more : take (i + 1) xs ≡ take i xs ++ x ∷ [] = take_more xs i x lt
        ∙ ap (λ z. take i xs ++ z ∷ []) (sym is) in
        subst (λ us. AllZip R us zs) (sym more) (subst (λ us. AllZip R (take i xs ++ x ∷ []) us) (sym made)
        (pairs_more (take i xs) ys x y all one))

    pub pairs_end : (ys : List Y) → length xs ≤ i → AllZip R (take i xs) ys → AllZip R xs ys
    pairs_end ys end all = subst (λ us. AllZip R us ys) (take_all i xs end) all

    pub pairs_none : (x : X) (ys : List Y) → i < length xs → x ≡ get_or xs i x → ((y : Y) → R x y → ⊥) →
        AllZip R xs ys → ⊥
    pairs_none x ys lt is alone all = let here = pairs_at xs ys i x all lt is in alone here.0 here.1

  -- pairs are determined by the first list, if each element has one partner
  pub pairs_one : ((x : X) (y z : Y) → R x y → R x z → y ≡ z) → (xs : List X) (ys zs : List Y) →
      AllZip R xs ys → AllZip R xs zs → ys ≡ zs
  pairs_one one [] [] [] p q = refl
  pairs_one one (x ∷ xs) (y ∷ ys) (z ∷ zs) p q =
      let a : y ≡ z = one x y z p.0 q.0 in
      let b : ys ≡ zs = pairs_one one xs ys zs p.1 q.1 in
      cc
  pairs_one one [] (y ∷ ys) zs p q = absurd p
  pairs_one one [] [] (z ∷ zs) p q = absurd q
  pairs_one one (x ∷ xs) [] zs p q = absurd p
  pairs_one one (x ∷ xs) (y ∷ ys) [] p q = absurd q

  -- what is known of each element of the second list
  module _ (Q : Y → Type 0) where
    pub pairs_with : (xs : List X) (ys : List Y) → AllZip R xs ys →
        ((k : ℕ) (y : Y) → slice_get ys k ≡ Some y → Q y) → AllZip (λ x y. R x y × Q y) xs ys
    pairs_with [] [] all each = tt
    pairs_with (x ∷ xs) (y ∷ ys) all each = (
      (all.0, each 0 y refl),
      pairs_with xs ys all.1 (λ k z at. each (suc k) z at),
    )
    pairs_with [] (y ∷ ys) all each = absurd all
    pairs_with (x ∷ xs) [] all each = absurd all

    pub pairs_first : (xs : List X) (ys : List Y) → AllZip (λ x y. R x y × Q y) xs ys → AllZip R xs ys
    pairs_first [] [] all = tt
    pairs_first (x ∷ xs) (y ∷ ys) all = (all.0.0, pairs_first xs ys all.1)
    pairs_first [] (y ∷ ys) all = absurd all
    pairs_first (x ∷ xs) [] all = absurd all

    pub pairs_second : (xs : List X) (ys : List Y) → AllZip (λ x y. R x y × Q y) xs ys → (k : ℕ) (y : Y) →
        slice_get ys k ≡ Some y → Q y
    pairs_second [] [] all k y at = absurd (let q : None ≡ Some y = at in cc)
    pairs_second (x ∷ xs) (z ∷ ys) all zero y at = let q : Some z ≡ Some y = at in let e : z ≡ y = cc in
        subst Q e all.0.1
    pairs_second (x ∷ xs) (z ∷ ys) all (suc k) y at = pairs_second xs ys all.1 k y at
    pairs_second [] (z ∷ ys) all k y at = absurd all
    pairs_second (x ∷ xs) [] all k y at = absurd all

-- what is known of the partners of what is known
pub pairs_have : {X Y : Type 0} (R : X → Y → Type 0) (P : X → Type 0) (Q : Y → Type 0) →
    ((x : X) (y : Y) → P x → R x y → Q y) → (xs : List X) (ys : List Y) → AllByRecursion P xs → AllZip R xs ys →
    AllByRecursion Q ys
pairs_have R P Q so [] [] a p = tt
pairs_have R P Q so (x ∷ xs) (y ∷ ys) a p = (so x y a.0 p.0, pairs_have R P Q so xs ys a.1 p.1)
pairs_have R P Q so [] (y ∷ ys) a p = absurd p
pairs_have R P Q so (x ∷ xs) [] a p = absurd p
