-- Items of a list with another item at one place, and what comes before a place.
use Rattle.std.proofs.Common.{◌≡◌, ◌≢◌, ℕ, zero, suc, ◌+◌, ◌≤◌, ◌<◌, List, [], ◌∷◌, ◌++◌, Bool, Some, None, take}
use Rattle.std.proofs.Common.{drop, refl, sym, ◌∙◌, ap, arith, length}
use Rattle.std.specs.Prelude.{slice_get, slice_set}
use Rattle.std.proofs.Math.Seq.{take-append_seam}
use Rattle.script_trim.specs.Cut.{new_number, staying}
use Rattle.script_trim.proofs.Staying.{staying_append, staying_length}

module _ {A : Type 0} where
  pub set_same : (xs : List A) (i : ℕ) (x : A) → i < length xs → slice_get (slice_set xs i x) i ≡ Some x
  set_same [] i x l = absurd (omega arith)
  set_same (y ∷ ys) zero x l = refl
  set_same (y ∷ ys) (suc i) x l = set_same ys i x (omega (arith, l))

  pub set_other : (xs : List A) (i k : ℕ) (x : A) → k ≢ i → slice_get (slice_set xs i x) k ≡ slice_get xs k
  set_other [] i k x h = refl
  set_other (y ∷ ys) zero zero x h = absurd (h refl)
  set_other (y ∷ ys) zero (suc k) x h = refl
  set_other (y ∷ ys) (suc i) zero x h = refl
  set_other (y ∷ ys) (suc i) (suc k) x h = set_other ys i k x (λ e. h (ap (λ n. suc n) e))

  pub length_set : (xs : List A) (i : ℕ) (x : A) → length (slice_set xs i x) ≡ length xs
  length_set [] i x = refl
  length_set (y ∷ ys) zero x = refl
  length_set (y ∷ ys) (suc i) x = ap (λ n. suc n) (length_set ys i x)

  pub take_set : (xs : List A) (i : ℕ) (x : A) → take i (slice_set xs i x) ≡ take i xs
  take_set [] i x = refl
  take_set (y ∷ ys) zero x = refl
  take_set (y ∷ ys) (suc i) x = ap (λ zs. y ∷ zs) (take_set ys i x)

  pub taken_more : (xs : List A) (k : ℕ) (x : A) → slice_get xs k ≡ Some x → take (suc k) xs ≡ take k xs ++ x ∷ []
  taken_more [] k x at = absurd (let q : None ≡ Some x = at in cc)
  taken_more (y ∷ ys) zero x at = let q : Some y ≡ Some x = at in let e : y ≡ x = cc in ap (λ z. z ∷ []) e
  taken_more (y ∷ ys) (suc k) x at = ap (λ zs. y ∷ zs) (taken_more ys k x at)

  pub taken_length : (xs : List A) (k : ℕ) → k ≤ length xs → length (take k xs) ≡ k
  taken_length [] zero l = refl
  taken_length [] (suc k) l = absurd (omega (arith, l))
  taken_length (x ∷ xs) zero l = refl
  taken_length (x ∷ xs) (suc k) l = ap (λ n. suc n) (taken_length xs k (omega (arith, l)))

  taken_and_rest : (xs : List A) (k : ℕ) → take k xs ++ drop k xs ≡ xs
  taken_and_rest [] zero = refl
  taken_and_rest [] (suc k) = refl
  taken_and_rest (x ∷ xs) zero = refl
  taken_and_rest (x ∷ xs) (suc k) = ap (λ ys. x ∷ ys) (taken_and_rest xs k)

  module _ (stays : ℕ → Bool) where
    -- what stays of the items before a place is before its new place
    pub take_staying :
        (xs : List A) (k : ℕ) → k ≤ length xs → take (new_number stays k) (staying stays 0 xs) ≡ staying stays 0
        (take k xs)
    take_staying xs k l =
        let n : length (staying stays 0 (take k xs)) ≡ new_number stays k =
        staying_length stays (take k xs) ∙ ap (λ j. new_number stays j) (taken_length xs k l) in
        let e : staying stays 0 (take k xs ++ drop k xs) ≡ staying stays 0 (take k xs) ++ staying stays
        (0 + length (take k xs)) (drop k xs) = staying_append stays 0 (take k xs) (drop k xs) in
        ap (λ j. take j (staying stays 0 xs)) (sym n)
        ∙ ap (λ ys. take (length (staying stays 0 (take k xs))) (staying stays 0 ys)) (sym (taken_and_rest xs k))
        ∙ ap (λ ys. take (length (staying stays 0 (take k xs))) ys) e
        ∙ take-append_seam (staying stays 0 (take k xs)) (staying stays (0 + length (take k xs)) (drop k xs))
