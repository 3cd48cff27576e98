-- How large the terms of a specification's rules are.
use Rattle.std.specs.Prelude.{ℕ, ◌≤◌}
use Rattle.std.specs.List.{AllByRecursion}
use Rattle.term_core.specs.Tree.{tree_size}
use Rattle.spec_core.specs.declared.records.Guard.{Guard}
use Rattle.spec_core.specs.declared.records.Rule.{Rule}
use Rattle.spec_core.specs.declared.records.Spec.{Spec}

module _ (n : ℕ) where
  -- neither a side of the rule nor a test of it has more than n symbols and variables
  abbrev pub RuleIsWithin : Rule → Type 0
  RuleIsWithin rule = (tree_size rule.left ≤ n) × (tree_size rule.right ≤ n)
      × AllByRecursion (λ (g : Guard). tree_size g.test ≤ n) rule.guards

  abbrev pub RulesAreWithin : Spec → Type 0
  RulesAreWithin spec = AllByRecursion RuleIsWithin spec.rules
