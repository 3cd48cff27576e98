-- Weights up to 1000 and terms of up to 32 bits have a weight of fewer than 128 bits.
use Rattle.std.proofs.Common.{◌≡◌, ◌↔◌, ℕ, ◌*◌, ◌≤◌, Bool, IsTrue, List, length, subst, inl, inr, arith}
use Rattle.std.specs.Prelude.{slice_index_or}
use Rattle.std.proofs.lemmas.List.{get_or_past}
use Rattle.term_core.specs.Tree.{Tree, Trees, var, app, none, some, tree_size, sizes}
use Rattle.term_core.proofs.Numbers.{below_or_not}
use Rattle.term_core.specs.Weights.{AreWeights}
use Rattle.kbo_order.specs.Weights.{symbol_weight, weight_of, weight_of_all, Fits}
use Rattle.kbo_order.specs.Above.{AboveByWeight}

symbol-small : (weights : List ℕ) → AreWeights weights → (f : ℕ) → symbol_weight weights f ≤ 1000
symbol-small weights h f =
    elim (below_or_not f (length weights)) [
      | inl l ↦ let b = h f 1 l in omega (arith, b.1)
      | inr l ↦ let e : slice_index_or weights f 1 ≡ 1 = get_or_past weights f 1 l in omega (arith, e)
    ]

mutual
  weight-least :
      (w : ℕ → ℕ) → ((f : ℕ) → w f ≤ 1000) → (t : Tree) → weight_of w t ≤ 1000 * tree_size t
  weight-least w h (var x) = omega arith
  weight-least w h (app f ts) = omega (arith, h f, weights-least w h ts)

  weights-least :
      (w : ℕ → ℕ) → ((f : ℕ) → w f ≤ 1000) → (ts : Trees) → weight_of_all w ts ≤ 1000 * sizes ts
  weights-least w h none = omega arith
  weights-least w h (some t ts) = omega (arith, weight-least w h t, weights-least w h ts)

small-fits :
    (weights : List ℕ) → AreWeights weights → (t : Tree) → tree_size t ≤ 4294967295 →
    Fits (symbol_weight weights) t
small-fits weights h t l =
    let m : weight_of (symbol_weight weights) t ≤ 1000 * tree_size t =
    weight-least (symbol_weight weights) (symbol-small weights h) t in
    omega (arith, l, m)

-- so a test by these weights tells of such a term whether it is above another one
pub small-told :
    {ws vs : List ℕ} (t s : Tree) (answer : Bool) → ws ≡ vs → AreWeights vs → tree_size t ≤ 4294967295 →
    IsTrue answer ↔ (Fits (symbol_weight ws) t × AboveByWeight (symbol_weight ws) t s) →
    AboveByWeight (symbol_weight vs) t s → IsTrue answer
small-told {vs = vs} t s answer e weights l tells p =
    let there : Fits (symbol_weight vs) t × AboveByWeight (symbol_weight vs) t s → IsTrue answer =
    subst (λ us. Fits (symbol_weight us) t × AboveByWeight (symbol_weight us) t s → IsTrue answer) e tells.1 in
    there (small-fits vs weights t l, p)
