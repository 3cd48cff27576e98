-- Weights of clauses under values: the multisets of the ranks of their sides.
use Rattle.std.specs.Prelude.{◌⊎◌, ℕ, ◌<◌, List, IsPermutation}
use Rattle.std.specs.List.{AllZip}
use Rattle.term_core.specs.Tree.{Tree, instance}
use Rattle.spec_core.specs.declared.records.Spec.{Spec}
use Rattle.clause_core.specs.declared.clauses.Clause.{Clause}
use Rattle.clause_core.specs.declared.clauses.Relation.{Relation}
use Rattle.clause_core.specs.declared.clauses.Relation.TheVariants.{Less, Same, Neither}
use Rattle.clause_core.specs.Ranks.{HasRank}
use Rattle.clause_core.specs.Clauses.{sides}
use Rattle.clause_core.specs.Multisets.{Exceeds}

module _ (rank : ℕ → ℕ → Tree → ℕ → Type 0) (spec : Spec) (values : List Tree) where
  -- the terms have these ranks under the values
  abbrev pub AreRanks : List Tree → List ℕ → Type 0
  AreRanks ts rs = AllZip (λ t r. HasRank rank spec (instance values t) r) ts rs

  -- the weight of the clause under the values is the multiset of the ranks of its sides
  abbrev pub IsWeight : Clause → List ℕ → Type 0
  IsWeight c w = AreRanks (sides c) w

-- the first weight is heavier, by the rule on multisets
abbrev pub IsHeavier : List ℕ → List ℕ → Type 0
IsHeavier w v = Exceeds (λ m n. n < m) w v

-- what a relation says of two weights: the second one is less, or is no more
abbrev pub Weighs : Relation → List ℕ → List ℕ → Type 0
Weighs Less w v = IsHeavier w v
Weighs Same w v = IsPermutation w v ⊎ IsHeavier w v
Weighs Neither w v = Unit {0}
