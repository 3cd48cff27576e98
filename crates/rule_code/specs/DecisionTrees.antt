-- Decision trees: a node leaves out the rules whose left sides can't match, and keeps their order.
use Rattle.std.specs.Prelude.{◌≡◌, ℕ, ◌-◌, ◌<◌, List, Option, Some, None, if◌then◌else◌, nat_lt, length, slice_get}
use Rattle.std.specs.Prelude.{slice_index_or}
use Rattle.term_core.specs.Tree.{Tree, app, instance, trees_of}
use Rattle.spec_core.specs.declared.records.Rule.{Rule}
use Rattle.spec_core.specs.declared.records.Spec.{Spec}
use Rattle.spec_core.specs.RuleTables.{numbers_of}
use Rattle.rule_code.specs.declared.symbols.Path.{Path}
use Rattle.rule_code.specs.declared.decision_trees.Split.{Split}
use Rattle.rule_code.specs.declared.decision_trees.TreeNode.{TreeNode}
use Rattle.rule_code.specs.declared.decision_trees.DecisionTree.{DecisionTree}
use Rattle.rule_code.specs.Symbols.{symbol_in, CanBe}

abbrev pub Lists : List ℕ → ℕ → Type 0
Lists numbers k = (j : ℕ) × (slice_get numbers j ≡ Some k)

-- the node that follows for this symbol
abbrev pub next_of : Split → ℕ → ℕ
next_of split d =
    if nat_lt d split.low then split.other
    else slice_index_or split.cases.items (d - split.low) split.other

module _ (rules : List Rule) where
  -- of these rules those that can match a call with the symbol at the place are among the others
  abbrev pub KeepsThose : List ℕ → Path → ℕ → List ℕ → Type 0
  KeepsThose numbers path d others =
      (k : ℕ) (rule : Rule)
      → Lists numbers k → slice_get rules k ≡ Some rule → CanBe (symbol_in path rule) d
      → Lists others k

  -- a later node keeps those of the rules that can match
  pub record Leads (nodes : List TreeNode) (i : ℕ) (numbers : List ℕ) (path : Path) (d next : ℕ) :
      Type 0 where
    pub later : i < next
    pub node : TreeNode
    pub there : slice_get nodes next ≡ Some node
    pub keeps : KeepsThose numbers path d node.rules.items

  -- for each symbol a later node follows
  abbrev pub IsSplit : List TreeNode → ℕ → List ℕ → Option Split → Type 0
  IsSplit nodes i numbers None = Unit {0}
  IsSplit nodes i numbers (Some split) =
      (d : ℕ) → Leads nodes i numbers split.path d (next_of split d)

  -- the node has some of the rules with these numbers
  pub record IsNode (numbers : List ℕ) (nodes : List TreeNode) (i : ℕ) (node : TreeNode) : Type 0
    where
      pub some : (k : ℕ) → Lists node.rules.items k → Lists numbers k
      pub split : IsSplit nodes i node.rules.items node.split

  abbrev pub AreNodes : List ℕ → List TreeNode → Type 0
  AreNodes numbers nodes =
      (i : ℕ) (node : TreeNode) → slice_get nodes i ≡ Some node → IsNode numbers nodes i node

  -- a tree of the rules with these numbers, which are all at the root
  pub record IsTree (numbers : List ℕ) (tree : DecisionTree) : Type 0 where
    pub root : TreeNode
    pub first : slice_get tree.nodes.items 0 ≡ Some root
    pub whole : root.rules.items ≡ numbers
    pub nodes : AreNodes numbers tree.nodes.items

  -- of the rules with these numbers all that match a call with the values are among the others, and no further ones
  pub record AreLeft (numbers : List ℕ) (values : List Tree) (others : List ℕ) : Type 0 where
    pub some : (k : ℕ) → Lists others k → Lists numbers k
    pub all : (k f : ℕ) (rule : Rule) (xs : List Tree)
        → Lists numbers k → slice_get rules k ≡ Some rule
        → instance xs rule.left ≡ app f (trees_of values) → Lists others k

-- for each symbol of the specification a tree of the rules of this function
pub record AreTrees (spec : Spec) (trees : List DecisionTree) : Type 0 where
  pub count : length trees ≡ length spec.sig.table
  pub each : (f : ℕ) (tree : DecisionTree)
      → slice_get trees f ≡ Some tree → IsTree spec.rules (numbers_of f 0 spec.rules) tree
