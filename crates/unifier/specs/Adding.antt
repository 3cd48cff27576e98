-- A graph with the nodes of more terms.
use Rattle.std.specs.Prelude.{◌≡◌, ℕ, ◌<◌, ◌≤◌, List, length}
use Rattle.term_core.specs.Tree.{Tree, trees_of}
use Rattle.unifier.specs.declared.unification.graph.Shape.{Shape}
use Rattle.unifier.specs.Graph.{AllBelow, trees_by, IsGraph, Depicts, HasOneNodeEach}
use Rattle.unifier.specs.Parts.{IsPart, IsPartOfAny}

-- the arguments of each node come before it, each variable has one node, and the nodes stand for
-- these trees
pub record IsOf (graph : List Shape) (tree : ℕ → Tree) : Type 0 where
  pub numbered : IsGraph graph
  pub variables : HasOneNodeEach graph
  pub depicts : Depicts graph tree

-- nodes are added, and the old ones keep their trees
pub record AddsNodes (old new : List Shape) (before after : ℕ → Tree) : Type 0 where
  pub longer : length old ≤ length new
  pub kept : (i : ℕ) → i < length old → after i ≡ before i
  pub is : IsOf new after

-- there is a node for the term, and each node that was added is for a part of it
abbrev pub Adds : List Shape → Tree → ℕ → List Shape → Type 0
Adds old term node new =
    (before : ℕ → Tree) → IsOf old before →
    (after : ℕ → Tree) × AddsNodes old new before after × (node < length new) × (after node ≡ term)
    × ((i : ℕ) → length old ≤ i → i < length new → IsPart (after i) term)

-- the same for some terms
abbrev pub AddsAll : List Shape → List Tree → List ℕ → List Shape → Type 0
AddsAll old terms nodes new =
    (before : ℕ → Tree) → IsOf old before →
    (after : ℕ → Tree) × AddsNodes old new before after × AllBelow (length new) nodes
    × (trees_by after nodes ≡ trees_of terms)
    × ((i : ℕ) → length old ≤ i → i < length new → IsPartOfAny (after i) (trees_of terms))
