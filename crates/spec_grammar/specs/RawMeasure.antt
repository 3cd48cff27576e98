-- A number that falls from a raw term to its list of arguments, and from a list to its members and
-- its rest.
use Rattle.std.specs.Prelude.{◌≡◌, ℕ, ◌+◌, ◌≤◌, List, [], ◌∷◌}
use Rattle.std.proofs.Common.{arith, refl}
use denote.Param.Weighed.{most}
use Rattle.spec_grammar.specs.RawTree.{RawTree, RawTrees, word, none, some, raw_trees}

abbrev mutual
  pub weight : RawTree → ℕ
  weight (word name at ts) = weights ts + 1

  pub weights : RawTrees → ℕ
  weights none = 0
  weights (some t ts) = weight t + weights ts + 1

abbrev pub list_weight : List RawTree → ℕ
list_weight [] = 0
list_weight (t ∷ ts) = weight t + list_weight ts + 1

pub list_weight_is : (ts : List RawTree) → list_weight ts ≡ weights (raw_trees ts)
list_weight_is [] = refl
list_weight_is (t ∷ ts) = omega (arith, list_weight_is ts)

pub most_le : (ts : List RawTree) → most (λ t. weight t + 1) ts ≤ list_weight ts
most_le [] = omega arith
most_le (t ∷ ts) = omega (arith, most_le ts)
