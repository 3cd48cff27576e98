use Rattle.std.proofs.Common.{◌≡◌, ℕ, Some, length}
use Rattle.std.specs.Prelude.{slice_get}
use Rattle.spec_core.specs.RuleTables.{numbers_of}
use Rattle.rule_code.specs.declared.decision_trees.DecisionTree.{DecisionTree}
use Rattle.rule_code.specs.DecisionTrees.{IsTree}
use Rattle.rule_code.proofs.growing.grow_trees.Given as goal

abbrev pub invariant-loop-symbol : goal.invariant-loop-symbol
invariant-loop-symbol l = record {
  count : length l.trees.items ≡ l.symbol;
  each : (f : ℕ) (tree : DecisionTree) → slice_get l.trees.items f ≡ Some tree →
      IsTree l.spec.rules (numbers_of f 0 l.spec.rules) tree;
}
