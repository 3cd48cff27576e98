use Rattle.std.proofs.Common.{◌≡◌, ◌-◌, ◌<◌, ℕ, List, Some, length}
use Rattle.std.specs.Prelude.{slice_get}
use Rattle.term_core.specs.Tree.{Tree, trees_of}
use Rattle.spec_core.specs.declared.records.Rule.{Rule}
use Rattle.value_bank.specs.Cells.{AreTerms}
use Rattle.rule_code.specs.declared.decision_trees.TreeNode.{TreeNode}
use Rattle.rule_code.specs.DecisionTrees.{IsTree, AreLeft}
use Rattle.rule_code.proofs.decision_trees.DecisionTree.rules_for.Given as goal

abbrev pub invariant-down : goal.invariant-down
invariant-down l = record {
  within : l.at < length l.self.nodes.items;
  left : (rules : List Rule) (numbers : List ℕ) (terms : List Tree) → IsTree rules numbers l.self →
      AreTerms l.bank l.args (trees_of terms) → (node : TreeNode) →
      slice_get l.self.nodes.items l.at ≡ Some node → AreLeft rules numbers terms node.rules.items;
}

abbrev pub decreases-down : goal.decreases-down
decreases-down l = length l.self.nodes.items - l.at
