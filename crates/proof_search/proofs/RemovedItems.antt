-- Lists without the item at an index.
use Rattle.std.proofs.Common.{◌≡◌, ℕ, zero, suc, ◌<◌, ◌≤◌, ◌⊎◌, List, [], ◌∷◌, ◌++◌, Some, map, inl, inr, refl, ap}
use Rattle.std.proofs.Common.{arith, length}
use Rattle.std.specs.Prelude.{slice_get, remove}
use Rattle.std.specs.List.{zip, AllZip}
use Rattle.std.proofs.lemmas.Option.{none-some}

-- an item before the index stays
pub removed_before :
    {X : Type 0} (xs : List X) (i k : ℕ) → k < i → slice_get (remove xs i) k ≡ slice_get xs k
removed_before [] zero k lt = absurd (omega arith)
removed_before [] (suc i) k lt = refl
removed_before (x ∷ xs) zero k lt = absurd (omega arith)
removed_before (x ∷ xs) (suc i) zero lt = refl
removed_before (x ∷ xs) (suc i) (suc k) lt = removed_before xs i k (omega (arith, lt))

-- an item that is left was before the index or after it
pub removed_at :
    {X : Type 0} (xs : List X) (i k : ℕ) (x : X) → slice_get (remove xs i) k ≡ Some x →
    ((slice_get xs k ≡ Some x) × (k < i)) ⊎ ((slice_get xs (suc k) ≡ Some x) × (i ≤ k))
removed_at [] zero k x at = absurd (none-some x at)
removed_at [] (suc i) k x at = absurd (none-some x at)
removed_at (y ∷ xs) zero k x at = inr (at, omega arith)
removed_at (y ∷ xs) (suc i) zero x at = inl (at, omega arith)
removed_at (y ∷ xs) (suc i) (suc k) x at =
    elim (removed_at xs i k x at) [
      | inl h ↦ inl (h.0, omega (arith, h.1))
      | inr h ↦ inr (h.0, omega (arith, h.1))
    ]

pub removed_middle :
    {X : Type 0} (xs ys : List X) (x : X) → xs ++ ys ≡ remove (xs ++ x ∷ ys) (length xs)
removed_middle [] ys x = refl
removed_middle (y ∷ xs) ys x = ap (λ zs. y ∷ zs) (removed_middle xs ys x)

pub map_removed :
    {X Y : Type 0} (f : X → Y) (xs : List X) (i : ℕ) → map f (remove xs i) ≡ remove (map f xs) i
map_removed f [] zero = refl
map_removed f [] (suc i) = refl
map_removed f (x ∷ xs) zero = refl
map_removed f (x ∷ xs) (suc i) = ap (λ ys. f x ∷ ys) (map_removed f xs i)

pub zip_removed :
    {X Y : Type 0} (xs : List X) (ys : List Y) (i : ℕ) → length ys ≡ length xs →
    zip (remove xs i) (remove ys i) ≡ remove (zip xs ys) i
zip_removed [] [] zero e = refl
zip_removed [] [] (suc i) e = refl
zip_removed [] (y ∷ ys) i e = absurd (omega (arith, e))
zip_removed (x ∷ xs) [] i e = absurd (omega (arith, e))
zip_removed (x ∷ xs) (y ∷ ys) zero e = refl
zip_removed (x ∷ xs) (y ∷ ys) (suc i) e =
    ap (λ zs. (x, y) ∷ zs) (zip_removed xs ys i (omega (arith, e)))

pub all_zip_removed :
    {X Y : Type 0} (R : X → Y → Type 0) (xs : List X) (ys : List Y) (i : ℕ) → AllZip R xs ys →
    AllZip R (remove xs i) (remove ys i)
all_zip_removed R [] [] zero all = tt
all_zip_removed R [] [] (suc i) all = tt
all_zip_removed R [] (y ∷ ys) i all = absurd all
all_zip_removed R (x ∷ xs) [] i all = absurd all
all_zip_removed R (x ∷ xs) (y ∷ ys) zero all = all.1
all_zip_removed R (x ∷ xs) (y ∷ ys) (suc i) all = (all.0, all_zip_removed R xs ys i all.1)
