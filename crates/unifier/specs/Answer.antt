-- The trees of the roots, and the entries that they make.
use Rattle.std.specs.Prelude.{◌≡◌, ℕ, zero, suc, List, Option, Some, length}
use Rattle.term_core.specs.Tree.{Tree, Trees, var}
use Rattle.substitutions.specs.Substitution.{entry, image}
use Rattle.unifier.specs.declared.unification.graph.Shape.{Shape}
use Rattle.unifier.specs.Graph.{shape_at, trees_by, built, IsNodeOf}
use Rattle.unifier.specs.Roots.{root}

-- the tree of a node, where each argument is the root of its class, down to a depth
abbrev pub unfolded : List Shape → List ℕ → ℕ → ℕ → Tree
unfolded graph roots zero i = var 0
unfolded graph roots (suc k) i =
    built (λ c. unfolded graph roots k (root roots c)) (shape_at graph i)

-- the tree of a node, which has no cycle below it
abbrev pub resolved : List Shape → List ℕ → ℕ → Tree
resolved graph roots i = unfolded graph roots (length graph) i

-- the trees of the roots of the nodes, in their order
abbrev pub resolved_all : List Shape → List ℕ → List ℕ → Trees
resolved_all graph roots cs = trees_by (λ c. resolved graph roots (root roots c)) cs

-- each variable of the graph becomes the tree of its root, and no other has an entry
pub record AreEntries (graph : List Shape) (roots : List ℕ)
    (entries : List (Option Tree)) : Type 0 where
  pub filled :
      (i n : ℕ) → IsNodeOf graph n i → image entries n ≡ resolved graph roots (root roots i)
  pub only : (n : ℕ) (t : Tree) → entry entries n ≡ Some t →
      (i : ℕ) × IsNodeOf graph n i × (t ≡ resolved graph roots (root roots i))
