-- The weights of symbols and terms, and how often a variable is in a term.
use Rattle.std.specs.Prelude.{ℕ, ◌≤◌, ◌<◌, ◌^◌, ◌==◌, max, List, if◌then◌else◌, slice_index_or}
use Rattle.term_core.specs.Tree.{Tree, Trees}
use Rattle.kbo_order.specs.Sums.{total, totals}

-- the weight of a symbol: its entry, which counts as 1 at least, and 1 beyond the list
abbrev pub symbol_weight : List ℕ → ℕ → ℕ
symbol_weight weights f = max 1 (slice_index_or weights f 1)

-- the weight of a term, where w is that of symbols, and each occurrence of a variable weighs 1
abbrev pub weight_of : (ℕ → ℕ) → Tree → ℕ
weight_of w t = total (λ x. 1) w t

abbrev pub weight_of_all : (ℕ → ℕ) → Trees → ℕ
weight_of_all w ts = totals (λ x. 1) w ts

-- the weight has 128 bits
abbrev pub Fits : (ℕ → ℕ) → Tree → Type 0
Fits w t = weight_of w t < 2 ^ 128

abbrev pub ArgumentsFit : (ℕ → ℕ) → Trees → Type 0
ArgumentsFit w ts = weight_of_all w ts < 2 ^ 128

-- how often the variable is in the term
abbrev pub times : ℕ → Tree → ℕ
times x t = total (λ y. if x == y then 1 else 0) (λ f. 0) t

abbrev pub times_in_all : ℕ → Trees → ℕ
times_in_all x ts = totals (λ y. if x == y then 1 else 0) (λ f. 0) ts

-- no variable is more often in the second term than in the first
pub record Covers (t s : Tree) : Type 0 where
  pub no_more : (x : ℕ) → times x s ≤ times x t
