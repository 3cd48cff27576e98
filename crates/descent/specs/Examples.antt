-- The one value of a sum, by the order of sums, and weights of a small clause.
use Rattle.std.specs.Prelude.{◌≡◌, ℕ, [], ◌∷◌}
use Rattle.term_core.specs.Tree.{Tree, tree_size}
use Rattle.spec_core.specs.Naturals.{nat, naturals, zero_term, succ_term, plus_term}
use Rattle.sample_specs.specs.SumOrder.{RankInSums}
use Rattle.clause_core.specs.declared.clauses.Relation.TheVariants.{Less, Same}
use Rattle.clause_core.specs.ExampleClauses.{unit_clause}
use Rattle.descent.specs.OneValue.{HasOneValue}
use Rattle.descent.specs.Weights.{IsWeight, IsHeavier, Weighs}

-- terms that rank by their size
abbrev pub by_size : ℕ → ℕ → Tree → ℕ → Type 0
by_size symbols depth t r = tree_size t ≡ r

pub record WorkedExamples : Type 0 where
  -- plus(succ(zero), zero) has one value, which is succ(zero), by two uses of rules
  pub sum : HasOneValue RankInSums naturals (plus_term (succ_term zero_term) zero_term) nat
  pub sum_is_one : sum.value ≡ succ_term zero_term
  pub two_uses : sum.cost ≡ 2
  -- by size, plus(?0, zero) = ?0 weighs 4 and 2 if ?0 is succ(zero)
  pub weight : IsWeight by_size naturals (succ_term zero_term ∷ []) unit_clause (4 ∷ 2 ∷ [])
  pub no_other_weight :
      IsWeight by_size naturals (succ_term zero_term ∷ []) unit_clause (4 ∷ 3 ∷ []) → ⊥
  -- 5 and 3 are heavier than twice 4 and 3, but not than themselves, which weigh the same
  pub heavier : IsHeavier (5 ∷ 3 ∷ []) (4 ∷ 4 ∷ 3 ∷ [])
  pub not_itself : Weighs Less (5 ∷ 3 ∷ []) (5 ∷ 3 ∷ []) → ⊥
  pub the_same : Weighs Same (5 ∷ 3 ∷ []) (3 ∷ 5 ∷ [])
