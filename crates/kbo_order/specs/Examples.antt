-- What the ordering by weights says of sums, products and inverses, where zero, succ, plus, mult and
-- inv are the symbols 2 to 6.
use Rattle.std.specs.Prelude.{◌≡◌, ℕ, List, [], ◌∷◌}
use Rattle.term_core.specs.Tree.{Tree, var, app, none, some}
use Rattle.kbo_order.specs.Weights.{symbol_weight, weight_of, times, Fits}
use Rattle.kbo_order.specs.Above.{AboveByWeight}

abbrev pub zero_term : Tree
zero_term = app 2 none

abbrev pub succ_term : Tree → Tree
succ_term t = app 3 (some t none)

abbrev pub plus_term : Tree → Tree → Tree
plus_term t s = app 4 (some t (some s none))

abbrev pub mult_term : Tree → Tree → Tree
mult_term t s = app 5 (some t (some s none))

abbrev pub inv_term : Tree → Tree
inv_term t = app 6 (some t none)

-- three variables
abbrev pub x : Tree
x = var 0

abbrev pub y : Tree
y = var 1

abbrev pub z : Tree
z = var 2

-- by some weights
abbrev pub AboveBy : List ℕ → Tree → Tree → Type 0
AboveBy weights = AboveByWeight (symbol_weight weights)

-- by weight 1 for each symbol
abbrev pub AboveByOnes : Tree → Tree → Type 0
AboveByOnes = AboveBy []

-- by weight 3 for succ, and 1 for the others
abbrev pub AboveByThree : Tree → Tree → Type 0
AboveByThree = AboveBy (1 ∷ 1 ∷ 1 ∷ 3 ∷ [])

-- the weights of which one is the greatest number of 128 bits
abbrev pub heaviest : List ℕ
heaviest = 340282366920938463463374607431768211455 ∷ []

pub record WorkedExamples : Type 0 where
  -- a weight is at the symbol's number, counts as 1 at least, and is 1 beyond the list
  pub listed : symbol_weight (1 ∷ 7 ∷ []) 1 ≡ 7
  pub at_least_one : symbol_weight (0 ∷ []) 0 ≡ 1
  pub beyond : symbol_weight (1 ∷ 7 ∷ []) 2 ≡ 1
  -- plus(succ(x), y) has two symbols and two variables, and x once
  pub weight : weight_of (symbol_weight []) (plus_term (succ_term x) y) ≡ 4
  pub once : times 0 (plus_term (succ_term x) y) ≡ 1
  pub twice : times 1 (plus_term y (mult_term x y)) ≡ 2
  -- weights: succ(succ(x)) is above succ(x)
  pub heavier : AboveByOnes (succ_term (succ_term x)) (succ_term x)
  -- heads: both weigh 4, and plus has the greater number
  pub sum : AboveByOnes (plus_term (succ_term x) y) (succ_term (plus_term x y))
  -- arguments: both weigh 4, and succ(x) is above x
  pub moved : AboveByOnes (plus_term (succ_term x) y) (plus_term x (succ_term y))
  -- associativity: both weigh 5, and plus(x, y) is above x
  pub associated : AboveByOnes (plus_term (plus_term x y) z) (plus_term x (plus_term y z))
  pub associated_back : AboveByOnes (plus_term x (plus_term y z)) (plus_term (plus_term x y) z) → ⊥
  -- weights go before heads: succ(x) is above plus(x, zero) if succ weighs 3, and not if each
  -- symbol weighs 1
  pub weighed : AboveByThree (succ_term x) (plus_term x zero_term)
  pub unweighed : AboveByOnes (succ_term x) (plus_term x zero_term) → ⊥
  -- distributivity, by any weights: x is once in mult(x, plus(y, z)), and twice in the sum
  pub distributed :
      (weights : List ℕ) →
      AboveBy weights (mult_term x (plus_term y z)) (plus_term (mult_term x y) (mult_term x z)) → ⊥
  -- the same of y in mult(succ(x), y) and plus(y, mult(x, y))
  pub product :
      (weights : List ℕ) →
      AboveBy weights (mult_term (succ_term x) y) (plus_term y (mult_term x y)) → ⊥
  -- the inverse of a product: if inv weighs nothing, as it may with Knuth and Bendix,
  -- inv(mult(x, y)) is above mult(inv(y), inv(x)). Here each symbol weighs at least 1, so it is the
  -- other way round
  pub inverse :
      (weights : List ℕ) → AboveBy weights (inv_term (mult_term x y)) (mult_term (inv_term y) (inv_term x)) → ⊥
  pub inverse_back :
      (weights : List ℕ) → AboveBy weights (mult_term (inv_term y) (inv_term x)) (inv_term (mult_term x y))
  -- neither of plus(x, y) and plus(y, x) is above the other
  pub exchanged : AboveByOnes (plus_term x y) (plus_term y x) → ⊥
  -- a variable is above nothing, and no term is above a variable that it hasn't
  pub variable : AboveByOnes x zero_term → ⊥
  pub foreign : AboveByOnes (succ_term zero_term) x → ⊥
  -- a symbol of the greatest weight that has 128 bits fits alone, and not over a variable
  pub fits : Fits (symbol_weight heaviest) (app 0 none)
  pub overflows : Fits (symbol_weight heaviest) (app 0 (some x none)) → ⊥
