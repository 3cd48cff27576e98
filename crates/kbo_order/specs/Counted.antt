-- The weight of a term, and how often one variable is in it.
use Rattle.std.specs.Prelude.{◌≡◌, ℕ}
use Rattle.term_core.specs.Tree.{Tree, Trees}
use Rattle.kbo_order.specs.Weights.{weight_of, weight_of_all, times, times_in_all}
use Rattle.kbo_order.specs.declared.totals.Sums.{Sums}

-- those of a term, where w is the weight of symbols and x is counted
abbrev pub IsSum : (ℕ → ℕ) → ℕ → Tree → Sums → Type 0
IsSum w x t sums = (sums.weight ≡ weight_of w t) × (sums.count ≡ times x t)

-- and those of some terms
abbrev pub IsSumOfAll : (ℕ → ℕ) → ℕ → Trees → Sums → Type 0
IsSumOfAll w x ts sums = (sums.weight ≡ weight_of_all w ts) × (sums.count ≡ times_in_all x ts)
