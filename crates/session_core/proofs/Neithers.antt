-- Whether something in a list has a property, item by item.
use Rattle.std.proofs.Common.{◌≡◌, ◌⊎◌, ℕ, suc, ◌<◌, ◌≤◌, List, Some, inl, inr, refl, subst, arith, length, get_or}
use Rattle.std.specs.Prelude.{slice_get}
use Rattle.std.proofs.lemmas.Option.{slice_get_read, slice_get_within}
use Rattle.clause_core.proofs.OneReferred.{one_get}

-- no item before this place has the property
abbrev pub NoneBefore : {X : Type 0} → (X → Type 0) → List X → ℕ → Type 0
NoneBefore {X} P xs k = (i : ℕ) (x : X) → i < k → slice_get xs i ≡ Some x → P x → ⊥

before_or_at : (i k : ℕ) → i < suc k → (i < k) ⊎ (i ≡ k)
before_or_at i k l = grind (arith, l)

pub none_more : {X : Type 0} (P : X → Type 0) (xs : List X) (k : ℕ) (y : X) → k < length xs → y ≡ get_or xs k y →
    (P y → ⊥) → NoneBefore P xs k → NoneBefore P xs (suc k)
none_more P xs k y lt is not none i x l at h = elim (before_or_at i k l) [
  | inl b ↦ none i x b at h
  | inr e ↦ (
      let there = slice_get_read xs (length xs) k y refl lt is in
      let same : x ≡ y = one_get xs i k x y at there e in
      not (subst P same h)
      )
]

pub none_all : {X : Type 0} (P : X → Type 0) (xs : List X) (k : ℕ) → length xs ≤ k → NoneBefore P xs k →
    (i : ℕ) (x : X) → slice_get xs i ≡ Some x → P x → ⊥
none_all P xs k l none i x at h = none i x (omega (arith, l, slice_get_within xs i x at)) at h
