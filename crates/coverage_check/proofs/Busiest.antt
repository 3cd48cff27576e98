-- The column at which most rows have a symbol, as the columns are walked through.
use Rattle.std.proofs.Common.{◌≡◌, ℕ, ◌+◌, ◌<◌, ◌≤◌, List, Option, Some, None, ◌⊎◌, inl, inr, sym, subst, arith}
use Rattle.std.specs.Prelude.{MatchOption}
use Rattle.term_core.specs.Tree.{Tree}
use Rattle.coverage_check.specs.Columns.{symbols_at, IsBusiest, HasNoSymbols}
use Rattle.term_core.proofs.Numbers.{below_or_last}

abbrev pub BusiestSoFar : List (List Tree) → ℕ → Option ℕ → ℕ → Type 0
BusiestSoFar rows n None most = (most ≡ 0) × HasNoSymbols rows n
BusiestSoFar rows n (Some k) most = (most ≡ symbols_at k rows) × IsBusiest rows n k

module _ (rows : List (List Tree)) (n count : ℕ) (is : count ≡ symbols_at n rows) where
  up_to : (P : ℕ → Type 0) → ((k : ℕ) → k < n → P k) → P n → (k : ℕ) → k < n + 1 → P k
  up_to P below here k h = by (below_or_last k n h)
    where
      by : (k < n) ⊎ (k ≡ n) → P k
      by (inl b) = below k b
      by (inr e) = subst P (sym e) here

  pub busier : (found : Option ℕ) (most : ℕ) → BusiestSoFar rows n found most → most < count →
      BusiestSoFar rows (n + 1) (Some n) count
  busier None most (zero_most, none_have) h = (
    is,
    record {
      within = omega arith;
      some = omega arith;
      most = up_to (λ k. symbols_at k rows ≤ symbols_at n rows) (λ k b. omega (arith, none_have k b)) (omega arith);
      first = λ k b. omega (arith, none_have k b);
    },
  )
  busier (Some j) most (most_is, best) h = (
    is,
    record {
      within = omega arith;
      some = omega arith;
      most = up_to (λ k. symbols_at k rows ≤ symbols_at n rows) (λ k b. omega (arith, best.most k b)) (omega arith);
      first = λ k b. omega (arith, best.most k b);
    },
  )

  pub not_busier : (found : Option ℕ) (most : ℕ) → BusiestSoFar rows n found most → count ≤ most →
      BusiestSoFar rows (n + 1) found most
  not_busier None most (zero_most, none_have) h = (
    zero_most,
    up_to (λ k. symbols_at k rows ≡ 0) none_have (omega arith),
  )
  not_busier (Some j) most (most_is, best) h = (
    most_is,
    record {
      within = omega (arith, best.within);
      some = best.some;
      most = up_to (λ k. symbols_at k rows ≤ symbols_at j rows) best.most (omega arith);
      first = best.first;
    },
  )

pub busiest_of_all : (rows : List (List Tree)) (n columns : ℕ) (found : Option ℕ) (most : ℕ) → n ≡ columns →
    BusiestSoFar rows n found most → MatchOption found (HasNoSymbols rows columns) (IsBusiest rows columns)
busiest_of_all rows n columns None most e b = subst (λ k. HasNoSymbols rows k) e b.1
busiest_of_all rows n columns (Some j) most e b = subst (λ k. IsBusiest rows k j) e b.1
