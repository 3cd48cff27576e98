use Rattle.std.proofs.Common.{◌≡◌, ◌+◌, ◌-◌, ◌≤◌, Some, length}
use Rattle.std.specs.Prelude.{slice_get}
use Rattle.rule_code.specs.declared.decision_trees.TreeNode.{TreeNode}
use Rattle.rule_code.specs.DecisionTrees.{AreNodes}
use Rattle.rule_code.proofs.decision_trees.DecisionTree.of.Given as goal

abbrev pub invariant-nodes : goal.invariant-nodes
invariant-nodes l = record {
  within : l.at ≤ length l.nodes.items;
  nodes : AreNodes l.rules l.numbers l.nodes.items;
  root : (root : TreeNode) × (slice_get l.nodes.items 0 ≡ Some root) × (root.rules.items ≡ l.numbers);
}

abbrev pub decreases-nodes : goal.decreases-nodes
decreases-nodes l = l.room + length l.nodes.items - l.at
