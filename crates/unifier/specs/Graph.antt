-- Terms as numbered nodes, where an application names the nodes of its arguments.
use Rattle.std.specs.Prelude.{◌≡◌, ℕ, ◌<◌, List, [], ◌∷◌, length, slice_index_or}
use Rattle.term_core.specs.Tree.{Tree, Trees, var, app, none, some}
use Rattle.unifier.specs.declared.unification.graph.Shape.{Shape}
use Rattle.unifier.specs.declared.unification.graph.Shape.TheVariants.{Var, App}

-- what is at a node
abbrev pub shape_at : List Shape → ℕ → Shape
shape_at graph i = slice_index_or graph i (Var (record { 0 = 0 }))

-- the trees of the nodes, in their order
abbrev pub trees_by : (ℕ → Tree) → List ℕ → Trees
trees_by tree [] = none
trees_by tree (c ∷ cs) = some (tree c) (trees_by tree cs)

-- the tree of a node, by the trees of the nodes of its arguments
abbrev pub built : (ℕ → Tree) → Shape → Tree
built tree (Var v) = var v.0
built tree (App f cs) = app f.0 (trees_by tree cs)

-- each number is below n
abbrev pub AllBelow : ℕ → List ℕ → Type 0
AllBelow n [] = Unit {0}
AllBelow n (c ∷ cs) = (c < n) × AllBelow n cs

-- each argument is a node before node n
abbrev pub ArgsBelow : ℕ → Shape → Type 0
ArgsBelow n (Var v) = Unit {0}
ArgsBelow n (App f cs) = AllBelow n cs

-- the arguments of each node come before it
abbrev pub IsGraph : List Shape → Type 0
IsGraph graph = (i : ℕ) → i < length graph → ArgsBelow i (shape_at graph i)

-- the nodes stand for these trees
abbrev pub Depicts : List Shape → (ℕ → Tree) → Type 0
Depicts graph tree = (i : ℕ) → i < length graph → tree i ≡ built tree (shape_at graph i)

-- what is at the node is this variable
abbrev pub IsShapeOf : ℕ → Shape → Type 0
IsShapeOf n (Var v) = v.0 ≡ n
IsShapeOf n (App f cs) = ⊥

-- node i is one of the variable
abbrev pub IsNodeOf : List Shape → ℕ → ℕ → Type 0
IsNodeOf graph n i = (i < length graph) × IsShapeOf n (shape_at graph i)

-- the variable has no node
abbrev pub HasNoNode : List Shape → ℕ → Type 0
HasNoNode graph n = (i : ℕ) → IsNodeOf graph n i → ⊥

-- no variable has two nodes
abbrev pub HasOneNodeEach : List Shape → Type 0
HasOneNodeEach graph = (i j n : ℕ) → IsNodeOf graph n i → IsNodeOf graph n j → i ≡ j
