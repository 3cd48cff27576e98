-- The convolution of numbers up to a cap, and how it is made.
use Rattle.std.proofs.Common.{◌≡◌, ℕ, zero, suc, ◌+◌, ◌-◌, ◌*◌, ◌<◌, ◌≤◌, min, List, inl, inr, ap, ◌∙◌, length}
use Rattle.std.proofs.Common.{replicate, arith}
use Rattle.std.specs.Prelude.{slice_index}
use Rattle.std.proofs.lemmas.List.{get_or-replicate, length-replicate}
use Rattle.std.proofs.Math.Nat.{mul-zero, zero-mul}
use Rattle.refuter.proofs.Numbers.{split_le}
use Rattle.refuter.proofs.Sums.{sums_same, sums_capped, sum_more, sum_none, product_capped}
use Rattle.refuter.proofs.BySize.{shifted_from, shifted_before}
use Rattle.refuter.specs.Counts.{IsCapped}
use Rattle.refuter.specs.Sequences.{sum_below, convolution, shifted}

-- the convolution of capped numbers is that of the sequences, up to the cap
pub convolution_capped : (cap : ℕ) (f g : ℕ → ℕ) (first rest : List ℕ) (n : ℕ) → IsCapped cap f first →
    IsCapped cap g rest → n < 256 → min (convolution (slice_index first) (slice_index rest) n) cap ≡ min
    (convolution f g n) cap
unfolding convolution
convolution_capped cap f g first rest n r s h =
    sums_capped (λ i. slice_index first i * slice_index rest (n - i)) (λ i. f i * g (n - i)) cap (n + 1) (λ i l.
    let a = r.each i (omega arith) in
    let b = s.each (n - i) (omega arith) in
    ap (λ k. min (k * slice_index rest (n - i)) cap) a ∙ ap (λ k. min (min (f i) cap * k) cap) b
    ∙ product_capped (f i) (g (n - i)) cap)

-- a convolution as far as the numbers of the first sequence below this place go
pub record IsConvolvedTo (cap : ℕ) (f g : ℕ → ℕ) (place : ℕ) (numbers : List ℕ) : Type 0 where
  pub long : length numbers ≡ 256
  pub each : (n : ℕ) → n < 256 → slice_index numbers n ≡ min (sum_below place (λ i. f i * shifted i g n)) cap

module _ (cap : ℕ) (f g : ℕ → ℕ) where
  pub convolved_start : (m : ℕ) (numbers : List ℕ) → m ≡ 256 → numbers ≡ replicate m 0 → IsConvolvedTo cap f g 0 numbers
  convolved_start m numbers e r = record {
    long = ap (λ xs. length xs) r ∙ length-replicate m 0 ∙ e;
    each = λ n l.
        let a : slice_index numbers n ≡ 0 = ap (λ xs. slice_index xs n) r ∙ get_or-replicate m n 0 0 (omega arith) in
        omega (arith, a, sum_none (λ i. f i * shifted i g n));
  }

  pub convolved_skip : (place : ℕ) (numbers : List ℕ) → IsConvolvedTo cap f g place numbers → f place ≡ 0 →
      IsConvolvedTo cap f g (place + 1) numbers
  convolved_skip place numbers r z = record {
    long = r.long;
    each = λ n l.
        let none : f place * shifted place g n ≡ 0 = ap (λ k. k * shifted place g n) z ∙ zero-mul (shifted place g n) in
        omega (arith, r.each n l, sum_more (λ i. f i * shifted i g n) place, none);
  }

  pub convolved_more : (place : ℕ) (old new : List ℕ) → IsConvolvedTo cap f g place old →
      length new ≡ length old → ((n : ℕ) → n < place → slice_index new n ≡ slice_index old n) →
      ((n : ℕ) → place ≤ n → n < 256 → slice_index new n ≡ min (slice_index old n + f place * g (n - place))
      cap) → IsConvolvedTo cap f g (place + 1) new
  convolved_more place old new r same before from = record {
    long = same ∙ r.long;
    each = λ n l.
        let more = sum_more (λ i. f i * shifted i g n) place in
        elim (split_le place n) [
          | inl h ↦
              let here : f place * shifted place g n ≡ f place * g (n - place) = ap (λ k. f place * k)
              (shifted_from g place n h) in
              omega (arith, r.each n l, more, here, from n h l)
          | inr h ↦
              let none : f place * shifted place g n ≡ 0 = ap (λ k. f place * k) (shifted_before g place n h)
              ∙ mul-zero (f place) in
              omega (arith, r.each n l, more, none, before n h)
        ];
  }

  -- numbers of the first sequence after a place add nothing to the convolution at that place
  convolution_long : (m n : ℕ) → n < m → sum_below m (λ i. f i * shifted i g n) ≡ convolution f g n
  unfolding sum_below convolution
  convolution_long zero n l = absurd (omega arith)
  convolution_long (suc m) n l =
      elim (split_le m n) [
        | inl h ↦
            let e : suc m ≡ n + 1 = omega arith in
            sums_same (λ i. f i * shifted i g n) (λ i. f i * g (n - i)) (suc m)
            (λ i b. ap (λ k. f i * k) (shifted_from g i n (omega arith)))
            ∙ ap (λ k. sum_below k (λ i. f i * g (n - i))) e
        | inr h ↦
            let none : f m * shifted m g n ≡ 0 = ap (λ k. f m * k) (shifted_before g m n h) ∙ mul-zero (f m) in
            omega (arith, convolution_long m n h, none)
      ]

  pub convolved_end : (numbers : List ℕ) → IsConvolvedTo cap f g 256 numbers → IsCapped cap (convolution f g) numbers
  convolved_end numbers r = record {
    long = r.long;
    each = λ n l. r.each n l
        ∙ ap (λ k. min k cap) (convolution_long 256 n l);
  }
