-- If no test of an order line finds a fault, its weights are weights: each one is 1 to 1000.
use Rattle.std.proofs.Common.{ℕ, ◌≤◌, ◌<◌, ◌⊎◌, inl, inr, Bool, true, false, List, [], ◌∷◌, ◌++◌, arith}
use Rattle.std.specs.Prelude.{◌==◌, if◌then◌else◌, map}
use Rattle.std.specs.List.{AllByRecursion}
use Rattle.std.proofs.lemmas.List.Elements.{All-from_recursion}
use Rattle.term_core.specs.Weights.{AreWeights}
use Rattle.term_core.proofs.Numbers.{below_or_not}
use Rattle.spec_core.specs.Sig.{Sig}
use Rattle.spec_core.specs.Findings.{Clean, each_after}
use Rattle.spec_grammar.specs.declared.raw.RawWeight.{RawWeight}
use Rattle.sort_check.specs.Orders.{symbol_number, weight_in}
use Rattle.sort_check.specs.OrderTests.{weight_tests}

abbrev IsWeight : ℕ → Type 0
IsWeight weight = (1 ≤ weight) × (weight ≤ 1000)

weight_fits : (weight : ℕ) → (¬ (IsWeight weight) → ⊥) → IsWeight weight
weight_fits weight h = by (below_or_not 0 weight) (below_or_not 1000 weight)
  where
    by : (0 < weight) ⊎ (weight ≤ 0) → (1000 < weight) ⊎ (weight ≤ 1000) → IsWeight weight
    by (inl some) (inr few) = (omega arith, few)
    by (inr none) few = absurd (h (λ is. omega (arith, is.0)))
    by (inl some) (inl many) = absurd (h (λ is. omega (arith, is.1)))

module _ (sig : Sig) where
  weights_fit :
      (before ws : List RawWeight) → Clean (each_after (weight_tests sig) before ws) → (f : ℕ) →
      IsWeight (weight_in sig ws f)
  weights_fit before [] clean f = (omega arith, omega arith)
  weights_fit before (w ∷ ws) clean f =
      by (symbol_number sig w.name == f) (weights_fit (before ++ w ∷ []) ws clean.1 f)
    where
      by : (b : Bool) → IsWeight (weight_in sig ws f) → IsWeight (if b then w.weight else weight_in sig ws f)
      by true later = weight_fits w.weight clean.0.1.1
      by false later = later

  all_fit :
      (ws : List RawWeight) → Clean (each_after (weight_tests sig) [] ws) → (fs : List ℕ) →
      AllByRecursion IsWeight (map (weight_in sig ws) fs)
  all_fit ws clean [] = tt
  all_fit ws clean (f ∷ fs) = (weights_fit [] ws clean f, all_fit ws clean fs)

  -- the weights of symbols with these numbers
  pub given_are_weights :
      (ws : List RawWeight) → Clean (each_after (weight_tests sig) [] ws) → (fs : List ℕ) →
      AreWeights (map (weight_in sig ws) fs)
  given_are_weights ws clean fs = All-from_recursion IsWeight (map (weight_in sig ws) fs) (all_fit ws clean fs)
