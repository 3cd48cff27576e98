-- Going through a list of items, each with candidates of its own, for the first that has a result.
use Rattle.std.proofs.Common.{◌≡◌, ℕ, zero, suc, ◌+◌, ◌<◌, ◌≤◌, List, ◌++◌, true, false, Some, None, Option, ◌⊎◌, inl}
use Rattle.std.proofs.Common.{inr, refl, ap, sym, ◌∙◌, subst, arith, length, map, drop, get_or}
use Rattle.std.specs.Prelude.{slice_get, is_some}
use Rattle.std.specs.List.{range_with_len}
use Rattle.std.proofs.lemmas.Option.{slice_get_read, slice_get_cases}
use Rattle.std.proofs.lemmas.List.Folds.{flat_map-map}
use Rattle.term_core.proofs.Items.{drop_here, drop_past}
use Rattle.routine_proof.specs.Candidates.{each}
use Rattle.routine_proof.specs.First.{NoneIs, IsFirst}
use Rattle.routine_proof.proofs.Left.{IsLeft, left_list, found_list, left_end}

-- the next number of a range
pub range_at : (a n k : ℕ) → k < n → slice_get (range_with_len a n) k ≡ Some (a + k)
range_at a zero k h = absurd (omega arith)
range_at a (suc n) zero h = let e : a ≡ a + 0 = omega arith in ap (λ m. Some m) e
range_at a (suc n) (suc k) h =
    let e : (a + 1) + k ≡ a + suc k = omega arith in
    range_at (a + 1) n k (omega arith) ∙ ap (λ m. Some m) e

pub number_at : (n k : ℕ) → k < n → slice_get (range_with_len 1 n) k ≡ Some (k + 1)
number_at n k h = let e : 1 + k ≡ k + 1 = omega arith in range_at 1 n k h ∙ ap (λ m. Some m) e

pub range_long : (a n : ℕ) → length (range_with_len a n) ≡ n
range_long a zero = refl
range_long a (suc n) = ap (λ m. suc m) (range_long (a + 1) n)

-- the item that is read, in a list that is the same
pub item_at : {X : Type 0} (xs ys : List X) (k : ℕ) (x : X) → xs ≡ ys → k < length xs →
    x ≡ get_or xs k x → slice_get ys k ≡ Some x
item_at {X} xs ys k x e h is =
    let here = slice_get_read xs (length xs) k x refl h is in
    subst (λ (l : List X). slice_get l k ≡ Some x) e here

pub past_all : {X : Type 0} (xs ys : List X) (k : ℕ) → xs ≡ ys → length xs ≤ k → length ys ≤ k
past_all {X} xs ys k e h = subst (λ (l : List X). length l ≤ k) e h

-- the candidates of items that stand for others
pub each_mapped : {X Y Z : Type 0} (h : Y → List Z) (v : X → Y) (xs : List X) →
    each (map v xs) h ≡ each xs (λ x. h (v x))
unfolding each
each_mapped h v xs = flat_map-map h v xs

module _ {A B R : Type 0} (is : B → R → Type 0) (xs : List A) (f : A → List B) where
  -- no item before this index has a result
  pub record Passed (k : ℕ) : Type 0 where
    pub left : IsLeft is (each xs f) (each (drop k xs) f)

  next : (k : ℕ) (x : A) → slice_get xs k ≡ Some x → Passed k →
      IsLeft is (each xs f) (f x ++ each (drop (k + 1) xs) f)
  unfolding each
  next k x e p = subst (λ (l : List A). IsLeft is (each xs f) (each l f)) (drop_here xs k x e) p.left

  -- the item at the index has the result
  pub found_at : (k : ℕ) (x : A) (found : Option R) → slice_get xs k ≡ Some x → Passed k →
      is_some found ≡ true → IsFirst is (f x) found → IsFirst is (each xs f) found
  found_at k x None e p there first = absurd (let q : false ≡ true = there in cc)
  found_at k x (Some r) e p there first = found_list is (each xs f) (f x) _ r (next k x e p) first

  -- or it has none
  pub passed_at : (k : ℕ) (x : A) (found : Option R) → slice_get xs k ≡ Some x → Passed k →
      is_some found ≡ false → IsFirst is (f x) found → Passed (k + 1)
  passed_at k x (Some r) e p there first = absurd (let q : true ≡ false = there in cc)
  passed_at k x None e p there first =
      record { left = left_list is (each xs f) (f x) _ (next k x e p) first }

  pub skipped_at : (k : ℕ) (x : A) → slice_get xs k ≡ Some x → Passed k → NoneIs is (f x) →
      Passed (k + 1)
  skipped_at k x e p none = passed_at k x None e p refl none

  -- none is left to pass
  past : (k : ℕ) → length xs ≤ k → Passed k → Passed (k + 1)
  past k h p =
      let e : drop k xs ≡ drop (k + 1) xs =
      drop_past xs k h ∙ sym (drop_past xs (k + 1) (omega (arith, h))) in
      record { left = subst (λ (l : List A). IsLeft is (each xs f) (each l f)) e p.left }

  -- this many items without a result, or fewer at the end
  pub skipped_all :
      (k n : ℕ) → Passed k →
      ((m : ℕ) (x : A) → k ≤ m → m < k + n → slice_get xs m ≡ Some x → NoneIs is (f x)) →
      Passed (k + n)
  skipped_all k zero p none = let e : k ≡ k + 0 = omega arith in subst Passed e p
  skipped_all k (suc n) p none =
      let q = skipped_all k n p (λ m x le lt at. none m x le (omega (arith, lt)) at) in
      let e : k + n + 1 ≡ k + suc n = omega arith in
      subst Passed e (by (slice_get_cases xs (k + n)).1 q)
    where
      by :
          ((x : A) × (k + n < length xs) × (slice_get xs (k + n) ≡ Some x)
          × (get_or xs (k + n) x ≡ x))
          ⊎ ((length xs ≤ k + n) × (slice_get xs (k + n) ≡ None)) →
          Passed (k + n) → Passed (k + n + 1)
      by (inl h) q = skipped_at (k + n) h.0 h.2 q (none (k + n) h.0 (omega arith) (omega arith) h.2)
      by (inr h) q = past (k + n) h.0 q

  pub none_found : (k : ℕ) → length xs ≤ k → Passed k → NoneIs is (each xs f)
  unfolding each
  none_found k h p =
      let e = drop_past xs k h in
      left_end is (each xs f) (subst (λ (l : List A). IsLeft is (each xs f) (each l f)) e p.left)
