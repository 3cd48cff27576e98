-- How many words the terms of a raw specification have.
use Rattle.std.specs.Prelude.{ℕ, ◌+◌, ◌≤◌}
use Rattle.std.specs.List.{AllByRecursion}
use Rattle.spec_grammar.specs.declared.raw.RawEq.{RawEq}
use Rattle.spec_grammar.specs.declared.raw.RawGuard.{RawGuard}
use Rattle.spec_grammar.specs.declared.raw.RawRule.{RawRule}
use Rattle.spec_grammar.specs.declared.raw.RawGoal.{RawGoal}
use Rattle.spec_grammar.specs.declared.raw.RawSpec.{RawSpec}
use Rattle.spec_grammar.specs.RawTree.{RawTree, RawTrees, word, none, some}

abbrev mutual
  pub words : RawTree → ℕ
  words (word name at ts) = 1 + words_all ts

  pub words_all : RawTrees → ℕ
  words_all none = 0
  words_all (some t ts) = words t + words_all ts

module _ (n : ℕ) where
  -- no term of these has more than n words
  abbrev pub EquationHasFewWords : RawEq → Type 0
  EquationHasFewWords e = (words e.left ≤ n) × (words e.right ≤ n)

  abbrev pub RuleHasFewWords : RawRule → Type 0
  RuleHasFewWords r = (words r.left ≤ n) × (words r.right ≤ n)
      × AllByRecursion (λ (g : RawGuard). words g.test ≤ n) r.guards

  abbrev pub GoalHasFewWords : RawGoal → Type 0
  GoalHasFewWords g = AllByRecursion EquationHasFewWords g.premises
      × AllByRecursion EquationHasFewWords g.conclusions

  abbrev pub HasFewWords : RawSpec → Type 0
  HasFewWords raw =
      AllByRecursion RuleHasFewWords raw.rules × AllByRecursion GoalHasFewWords raw.goals
