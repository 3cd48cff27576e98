-- The sums of lists of terms, from those of their first ones and of the others.
use Rattle.std.proofs.Common.{◌≡◌, ℕ, ◌+◌, ◌<◌, ◌≤◌, ◌^◌, List, ◌∷◌, ap, arith}
use Rattle.std.specs.Prelude.{Option, Some, None, MatchOption}
use Rattle.std.proofs.lemmas.Bool.Decides.{nat_tests}
use Rattle.term_core.specs.Tree.{Tree, Trees, var, app, none, some, trees_of}
use Rattle.kbo_order.specs.Weights.{weight_of, weight_of_all, times, times_in_all, ArgumentsFit}
use Rattle.kbo_order.specs.Counted.{IsSum, IsSumOfAll}
use Rattle.kbo_order.specs.SumLaws.{one_at}
use Rattle.kbo_order.specs.declared.totals.Sums.{Sums}

-- what the sum of two sums is
abbrev pub IsPlus : Sums → Sums → Option Sums → Type 0
IsPlus a b r =
    MatchOption r (a.weight + b.weight < 2 ^ 128 → a.count + b.count < 2 ^ 128 → ⊥)
    (λ sums. (sums.weight ≡ a.weight + b.weight) × (sums.count ≡ a.count + b.count))

module _ (w : ℕ → ℕ) (x : ℕ) where
  -- a variable is no more often in a term than the term weighs
  mutual
    times-least : (t : Tree) → times x t ≤ weight_of w t
    times-least (var y) = let l : one_at x y ≤ 1 = grind (arith, nat_tests) in omega (arith, l)
    times-least (app f ts) = omega (arith, times-all ts)

    times-all : (ts : Trees) → times_in_all x ts ≤ weight_of_all w ts
    times-all none = omega arith
    times-all (some t ts) = omega (arith, times-least t, times-all ts)

  module _ {us ts : List Tree} {t : Tree} (e : us ≡ t ∷ ts) where
    weighed-all : weight_of_all w (trees_of us) ≡ weight_of w t + weight_of_all w (trees_of ts)
    weighed-all = ap (λ vs. weight_of_all w (trees_of vs)) e

    counted-all : times_in_all x (trees_of us) ≡ times x t + times_in_all x (trees_of ts)
    counted-all = ap (λ vs. times_in_all x (trees_of vs)) e

    pub of-list :
        (first others : Sums) (r : Option Sums) → IsSum w x t first →
        IsSumOfAll w x (trees_of ts) others → IsPlus first others r →
        MatchOption r (ArgumentsFit w (trees_of us) → ⊥) (λ sums. IsSumOfAll w x (trees_of us) sums)
    of-list first others None h a p =
        λ l.
        p (omega (arith, l, weighed-all, h.0, a.0))
        (omega (arith, l, weighed-all, h.1, a.1, times-least t, times-all (trees_of ts)))
    of-list first others (Some sums) h a p =
        (omega (arith, p.0, weighed-all, h.0, a.0), omega (arith, p.1, counted-all, h.1, a.1))
