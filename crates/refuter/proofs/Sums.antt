-- Sums of the first numbers of a sequence, and what a cap leaves of them.
use Rattle.std.proofs.Common.{◌≡◌, ◌≢◌, ℕ, zero, suc, ◌+◌, ◌*◌, ◌<◌, ◌≤◌, min, eqb, true, false, inl, inr, refl, ap}
use Rattle.std.proofs.Common.{sym, ◌∙◌, arith}
use Rattle.std.specs.Prelude.{if◌then◌else◌, ◌==◌}
use Rattle.std.proofs.Math.Nat.{mul-zero, zero-mul, add-mul, one-mul, mul-one, mul_comm}
use Rattle.std.proofs.lemmas.Nat.{mul-le}
use Rattle.std.proofs.lemmas.Bool.Decides.{nat_tests}
use Rattle.term_core.proofs.Numbers.{same_or_not}
use Rattle.refuter.proofs.Numbers.{split_le}
use Rattle.refuter.specs.Sequences.{sum_below}

pub same_true : (n m : ℕ) → n ≡ m → eqb n m ≡ true
same_true n m h = grind (arith, nat_tests)

pub same_false : (n m : ℕ) → n ≢ m → eqb n m ≡ false
same_false n m h = grind (arith, nat_tests)

-- 1 at one place, and 0 elsewhere
unfoldable pub one_at : ℕ → ℕ → ℕ
one_at k i = if k == i then 1 else 0

pub at_place : (k i : ℕ) → k ≡ i → one_at k i ≡ 1
unfolding one_at
at_place k i h = rw (same_true k i h) refl

pub at_other : (k i : ℕ) → k ≢ i → one_at k i ≡ 0
unfolding one_at
at_other k i h = rw (same_false k i h) refl

module _ (f g : ℕ → ℕ) where
  pub sums_same : (m : ℕ) → ((i : ℕ) → i < m → f i ≡ g i) → sum_below m f ≡ sum_below m g
  unfolding sum_below
  sums_same zero h = refl
  sums_same (suc m) h = omega (arith, sums_same m (λ i l. h i (omega arith)), h m (omega arith))

  pub sums_add : (m : ℕ) → sum_below m (λ i. f i + g i) ≡ sum_below m f + sum_below m g
  unfolding sum_below
  sums_add zero = refl
  sums_add (suc m) = omega (arith, sums_add m)

  -- sums are the same up to a cap if their summands are
  pub sums_capped : (cap m : ℕ) → ((i : ℕ) → i < m → min (f i) cap ≡ min (g i) cap) →
      min (sum_below m f) cap ≡ min (sum_below m g) cap
  unfolding sum_below
  sums_capped cap zero h = refl
  sums_capped cap (suc m) h = omega (arith, sums_capped cap m (λ i l. h i (omega arith)), h m (omega arith))

pub sum_zero : (f : ℕ → ℕ) (m : ℕ) → ((i : ℕ) → i < m → f i ≡ 0) → sum_below m f ≡ 0
unfolding sum_below
sum_zero f zero h = refl
sum_zero f (suc m) h = omega (arith, sum_zero f m (λ i l. h i (omega arith)), h m (omega arith))

-- of the products with 1 at one place one is left, or none if the place isn't among the first
pub sum_without : (h : ℕ → ℕ) (k m : ℕ) → m ≤ k → sum_below m (λ i. one_at k i * h i) ≡ 0
sum_without h k m l = sum_zero (λ i. one_at k i * h i) m
    (λ i b. ap (λ n. n * h i) (at_other k i (λ q. omega arith)) ∙ zero-mul (h i))

pub sum_one : (h : ℕ → ℕ) (k m : ℕ) → k < m → sum_below m (λ i. one_at k i * h i) ≡ h k
unfolding sum_below
sum_one h k zero l = absurd (omega arith)
sum_one h k (suc m) l =
    elim (same_or_not k m) [
      | inl q ↦
          let a : one_at k m * h m ≡ 1 * h m = ap (λ n. n * h m) (at_place k m q) in
          let b : h m ≡ h k = ap h (sym q) in
          omega (arith, sum_without h k m (omega arith), a, one-mul (h m), b)
      | inr q ↦
          let a : one_at k m * h m ≡ 0 = ap (λ n. n * h m) (at_other k m q) ∙ zero-mul (h m) in
          omega (arith, sum_one h k m (omega arith), a)
    ]

pub sums_more : (f g h : ℕ → ℕ) (m : ℕ) → sum_below m (λ i. (f i + g i) * h i) ≡ sum_below m (λ i. f i * h i) +
    sum_below m (λ i. g i * h i)
sums_more f g h m = sums_same (λ i. (f i + g i) * h i) (λ i. f i * h i + g i * h i) m
    (λ i l. add-mul (f i) (g i) (h i)) ∙ sums_add (λ i. f i * h i) (λ i. g i * h i) m

-- a product with a number of which the cap says all
product_capped_left : (a b cap : ℕ) → min (min a cap * b) cap ≡ min (a * b) cap
product_capped_left a zero cap = ap (λ n. min n cap) (mul-zero (min a cap) ∙ sym (mul-zero a))
product_capped_left a (suc b) cap =
    elim (split_le a cap) [
      | inl l ↦
          let e : min a cap ≡ a = omega arith in
          ap (λ n. min (n * suc b) cap) e
      | inr l ↦
          let e : min a cap ≡ cap = omega arith in
          let p : cap * 1 ≤ cap * suc b = mul-le cap 1 cap (suc b) (omega arith) (omega arith) in
          let q : a * 1 ≤ a * suc b = mul-le a 1 a (suc b) (omega arith) (omega arith) in
          ap (λ n. min (n * suc b) cap) e ∙ omega (arith, p, q, mul-one a, mul-one cap)
    ]

pub product_capped : (a b cap : ℕ) → min (min a cap * min b cap) cap ≡ min (a * b) cap
product_capped a b cap =
    product_capped_left a (min b cap) cap ∙ ap (λ n. min n cap) (mul_comm a (min b cap))
    ∙ product_capped_left b a cap ∙ ap (λ n. min n cap) (mul_comm b a)

pub sum_more : (f : ℕ → ℕ) (m : ℕ) → sum_below (m + 1) f ≡ sum_below m f + f m
unfolding sum_below
sum_more f m = let e : m + 1 ≡ suc m = omega arith in rw e refl

pub sum_none : (f : ℕ → ℕ) → sum_below 0 f ≡ 0
unfolding sum_below
sum_none f = refl
