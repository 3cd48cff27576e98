-- How decision trees grow.
use Rattle.std.specs.Prelude.{◌≡◌, ◌≢◌, ◌⊎◌, ℕ, ◌+◌, ◌<◌, ◌≤◌, List, Option, Some, None, length, slice_get}
use Rattle.spec_core.specs.declared.records.Rule.{Rule}
use Rattle.rule_code.specs.declared.symbols.Path.{Path}
use Rattle.rule_code.specs.declared.decision_trees.Split.{Split}
use Rattle.rule_code.specs.declared.decision_trees.TreeNode.{TreeNode}
use Rattle.rule_code.specs.declared.splitting.Wanted.{Wanted}
use Rattle.rule_code.specs.declared.splitting.Wanted.TheVariants.{One, Outside}
use Rattle.rule_code.specs.DecisionTrees.{Lists, next_of, KeepsThose}
use Rattle.rule_code.specs.Symbols.{symbol_in, CanBe}

-- nothing is there, or a symbol outside of the numbers from `low` to below `end`
abbrev pub CanBeOutside : ℕ → ℕ → Option ℕ → Type 0
CanBeOutside low end None = Unit {0}
CanBeOutside low end (Some c) = (c < low) ⊎ (end ≤ c)

abbrev pub CanBeWanted : Wanted → Option ℕ → Type 0
CanBeWanted (One d) there = CanBe there d
CanBeWanted (Outside low end) there = CanBeOutside low end there

-- all of these are among the numbers
abbrev pub AreAmong : List ℕ → List ℕ → Type 0
AreAmong numbers those = (k : ℕ) → Lists those k → Lists numbers k

-- nodes without a split that have some of the numbers
abbrev pub AreLeaves : List ℕ → List TreeNode → Type 0
AreLeaves numbers nodes =
    (i : ℕ) (node : TreeNode) → slice_get nodes i ≡ Some node
    → (node.split ≡ None) × AreAmong numbers node.rules.items

module _ (rules : List Rule) where
  -- those of the numbers whose rules have nothing at the place, or what is wanted
  pub record AreThose (numbers : List ℕ) (path : Path) (wanted : Wanted) (those : List ℕ) : Type 0
    where
      pub some : AreAmong numbers those
      pub all : (k : ℕ) (rule : Rule) → Lists numbers k → slice_get rules k ≡ Some rule
          → CanBeWanted wanted (symbol_in path rule) → Lists those k

  -- no rule has the symbol at the place
  abbrev pub NoneHas : List ℕ → Path → ℕ → Type 0
  NoneHas numbers path d =
      (k : ℕ) (rule : Rule) → Lists numbers k → slice_get rules k ≡ Some rule
      → symbol_in path rule ≡ Some d → ⊥

  -- the node with this number, where the first of these nodes has the number `first`, keeps the rules that can match
  pub record LeadsInto (first : ℕ) (nodes : List TreeNode) (numbers : List ℕ) (path : Path)
      (d next : ℕ) : Type 0 where
    pub place : ℕ
    pub is : next ≡ first + place
    pub node : TreeNode
    pub there : slice_get nodes place ≡ Some node
    pub keeps : KeepsThose rules numbers path d node.rules.items

  -- the nodes that follow a split of these numbers
  pub record AreParts (first : ℕ) (numbers : List ℕ) (split : Split) (nodes : List TreeNode) : Type
      0 where
    pub leaves : AreLeaves numbers nodes
    pub leads : (d : ℕ) → LeadsInto first nodes numbers split.path d (next_of split d)

-- the node at this number has the split, and all else stays
pub record IsPut (old new : List TreeNode) (at : ℕ) (split : Split) : Type 0 where
  pub count : length new ≡ length old
  pub here : (node : TreeNode) → slice_get old at ≡ Some node
      → (put : TreeNode) × (slice_get new at ≡ Some put) × (put.rules ≡ node.rules)
      × (put.split ≡ Some split)
  pub others : (i : ℕ) → i ≢ at → slice_get new i ≡ slice_get old i

-- the nodes keep their rules, and there are at most this many further ones
pub record Grow (old new : List TreeNode) (most : ℕ) : Type 0 where
  pub more : length old ≤ length new
  pub count : length new ≤ length old + most
  pub keeps : (i : ℕ) (node : TreeNode) → slice_get old i ≡ Some node
      → (grown : TreeNode) × (slice_get new i ≡ Some grown) × (grown.rules ≡ node.rules)
