-- Items of lists.
use Rattle.std.proofs.Common.{◌≡◌, ℕ, ◌+◌, ◌<◌, List, [], ◌∷◌, ◌++◌, Some, refl, sym, subst, get_or, length, take}
use Rattle.std.specs.Prelude.{slice_get}
use Rattle.std.specs.List.{AllByRecursion}
use Rattle.std.proofs.lemmas.Option.{slice_get_read, slice_get_within, get_or_from_slice_get}
use Rattle.term_core.proofs.Items.{all_append, taken_next}

-- an item that was read from a slice of the list
pub item_at : {X : Type 0} (items xs : List X) (i : ℕ) (x : X) → items ≡ xs → i < length items →
    x ≡ get_or items i x → slice_get xs i ≡ Some x
item_at items xs i x e h is = subst (λ ys. slice_get ys i ≡ Some x) e
    (slice_get_read items (length items) i x refl h is)

pub take_here : {X : Type 0} (xs : List X) (i : ℕ) (x : X) → slice_get xs i ≡ Some x →
    take (i + 1) xs ≡ take i xs ++ x ∷ []
take_here xs i x at = taken_next xs i x (slice_get_within xs i x at) (sym (get_or_from_slice_get xs i x x at))

-- what holds of the items before a place and of the one there
pub all_more : {X : Type 0} (P : X → Type 0) (xs : List X) (i : ℕ) (x : X) → slice_get xs i ≡ Some x →
    AllByRecursion P (take i xs) → P x → AllByRecursion P (take (i + 1) xs)
all_more P xs i x at h p = subst (λ ys. AllByRecursion P ys) (sym (take_here xs i x at))
    (all_append P (take i xs) (x ∷ []) h (p, tt))
