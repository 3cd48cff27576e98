-- Names that differ from one another.
use Rattle.std.proofs.Common.{◌≡◌, ◌<◌, ◌+◌, ℕ, zero, suc, List, [], ◌∷◌, ◌++◌, None, Some, length, take, drop}
use Rattle.std.proofs.Common.{refl, ap, sym, ◌∙◌, subst, inl, inr, arith}
use Rattle.std.specs.Prelude.{◌⊎◌, Contains, slice_get}
use Rattle.std.proofs.lemmas.Option.{slice_get-get_or, slice_get_within, get_or_from_slice_get}
use Rattle.node_names.specs.Names.{AreDifferent}

-- a name with a place is among the names
pub at_contains : {X : Type 0} (xs : List X) (k : ℕ) (x : X) → slice_get xs k ≡ Some x
    → Contains xs x
at_contains xs k x at = (k, slice_get_within xs k x at, get_or_from_slice_get xs k x x at)

-- and one among the names has a place
pub contains_at : {X : Type 0} (xs : List X) (x : X) → Contains xs x
    → (k : ℕ) × (slice_get xs k ≡ Some x)
contains_at xs x (k, lt, e) = (k, slice_get-get_or xs k x lt ∙ ap (λ y. Some y) e)

-- a place of a list with one more item
pub pushed_at : {X : Type 0} (xs : List X) (y x : X) (k : ℕ) → slice_get (xs ++ y ∷ []) k ≡ Some x
    → (slice_get xs k ≡ Some x) ⊎ ((k ≡ length xs) × (y ≡ x))
pushed_at [] y x zero at = inr (refl, let q : Some y ≡ Some x = at in cc)
pushed_at [] y x (suc k) at = absurd (let q : None ≡ Some x = at in cc)
pushed_at (z ∷ xs) y x zero at = inl at
pushed_at (z ∷ xs) y x (suc k) at = elim (pushed_at xs y x k at) [
  | inl p ↦ inl p
  | inr p ↦ inr (ap suc p.0, p.1)
]

-- a further name that is none of them
pub different_pushed : (names : List (List ℕ)) (name : List ℕ) → AreDifferent names
    → (Contains names name → ⊥) → AreDifferent (names ++ name ∷ [])
different_pushed names name different absent j k n at_j at_k =
    by (pushed_at names name n j at_j) (pushed_at names name n k at_k)
  where
    by : (slice_get names j ≡ Some n) ⊎ ((j ≡ length names) × (name ≡ n))
        → (slice_get names k ≡ Some n) ⊎ ((k ≡ length names) × (name ≡ n)) → j ≡ k
    by (inl p) (inl q) = different j k n p q
    by (inl p) (inr q) = absurd (absent (subst (λ x. Contains names x) (sym q.1) (at_contains names j n p)))
    by (inr p) (inl q) = absurd (absent (subst (λ x. Contains names x) (sym p.1) (at_contains names k n q)))
    by (inr p) (inr q) = p.0 ∙ sym q.0

-- the names from a place on
pub dropped_at : {X : Type 0} (xs : List X) (n k : ℕ) → slice_get (drop n xs) k ≡ slice_get xs (n + k)
dropped_at xs zero k = let e : k ≡ 0 + k = omega arith in ap (λ i. slice_get xs i) e
dropped_at [] (suc n) k = refl
dropped_at (x ∷ xs) (suc n) k =
    let e : suc (n + k) ≡ suc n + k = omega arith in
    dropped_at xs n k ∙ ap (λ i. slice_get (x ∷ xs) i) e

pub different_dropped : (names : List (List ℕ)) (n : ℕ) → AreDifferent names
    → AreDifferent (drop n names)
different_dropped names n different j k name at_j at_k =
    let same : n + j ≡ n + k = different (n + j) (n + k) name (sym (dropped_at names n j) ∙ at_j)
    (sym (dropped_at names n k) ∙ at_k) in
    omega arith

-- the names before a place
pub taken_at : {X : Type 0} (xs : List X) (n k : ℕ) (x : X) → slice_get (take n xs) k ≡ Some x
    → (k < n) × (slice_get xs k ≡ Some x)
taken_at [] zero k x at = absurd (let q : None ≡ Some x = at in cc)
taken_at [] (suc n) k x at = absurd (let q : None ≡ Some x = at in cc)
taken_at (y ∷ xs) zero k x at = absurd (let q : None ≡ Some x = at in cc)
taken_at (y ∷ xs) (suc n) zero x at = (omega arith, at)
taken_at (y ∷ xs) (suc n) (suc k) x at =
    let r = taken_at xs n k x at in
    let lt : k < n = r.0 in
    (omega arith, r.1)
