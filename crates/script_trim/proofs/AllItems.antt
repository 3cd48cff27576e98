-- What holds of each item of lists that are made from lists.
use Rattle.std.proofs.Common.{ℕ, zero, suc, ◌+◌, ◌≤◌, ◌<◌, List, [], ◌∷◌, Bool, true, false, arith, map}
use Rattle.std.specs.Prelude.{cond, flat_map, slice_set}
use Rattle.std.specs.List.{AllByRecursion, range_with_len}
use Rattle.term_core.proofs.Items.{all_append}
use Rattle.script_trim.specs.Cut.{staying}

module _ {A : Type 0} where
  pub all_of : (P : A → Type 0) (xs : List A) → ((x : A) → P x) → AllByRecursion P xs
  all_of P [] f = tt
  all_of P (x ∷ xs) f = (f x, all_of P xs f)

  pub all_each :
      (P Q : A → Type 0) (xs : List A) → ((x : A) → P x → Q x) → AllByRecursion P xs →
      AllByRecursion Q xs
  all_each P Q [] f h = tt
  all_each P Q (x ∷ xs) f h = (f x h.0, all_each P Q xs f h.1)

  pub all_mapped :
      {B : Type 0} (P : B → Type 0) (f : A → B) (xs : List A) → AllByRecursion (λ x. P (f x)) xs →
      AllByRecursion P (map f xs)
  all_mapped P f [] h = tt
  all_mapped P f (x ∷ xs) h = (h.0, all_mapped P f xs h.1)

  pub all_flat :
      {B : Type 0} (P : B → Type 0) (f : A → List B) (xs : List A) →
      AllByRecursion (λ x. AllByRecursion P (f x)) xs → AllByRecursion P (flat_map f xs)
  all_flat P f [] h = tt
  all_flat P f (x ∷ xs) h = all_append P (f x) (flat_map f xs) h.0 (all_flat P f xs h.1)

  pub all_set :
      (P : A → Type 0) (xs : List A) (k : ℕ) (x : A) → AllByRecursion P xs → P x →
      AllByRecursion P (slice_set xs k x)
  all_set P [] k x h p = tt
  all_set P (y ∷ xs) zero x h p = (p, h.1)
  all_set P (y ∷ xs) (suc k) x h p = (h.0, all_set P xs k x h.1 p)

  pub all_staying :
      (P : A → Type 0) (stays : ℕ → Bool) (k : ℕ) (xs : List A) → AllByRecursion P xs →
      AllByRecursion P (staying stays k xs)
  all_staying P stays k [] h = tt
  all_staying P stays k (x ∷ xs) h =
      by_case (stays k) (staying stays (suc k) xs) (all_staying P stays (suc k) xs h.1)
    where
      by_case :
          (b : Bool) (rest : List A) → AllByRecursion P rest →
          AllByRecursion P (cond b (x ∷ rest) rest)
      by_case true rest r = (h.0, r)
      by_case false rest r = r

pub all_from :
    (P : ℕ → Type 0) (from count : ℕ) → ((k : ℕ) → from ≤ k → k < from + count → P k) →
    AllByRecursion P (range_with_len from count)
all_from P from zero h = tt
all_from P from (suc count) h = (
  h from (omega arith) (omega arith),
  all_from P (from + 1) count (λ k low high. h k (omega (arith, low)) (omega (arith, high))),
)
