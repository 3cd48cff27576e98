-- Classes of nodes, by the root that each node's class has.
use Rattle.std.specs.Prelude.{◌≡◌, ℕ, ◌<◌, ◌==◌, if◌then◌else◌, List, length, map, slice_index}
use Rattle.unifier.specs.declared.unification.graph.Shape.{Shape}

-- the root of a node's class
abbrev pub root : List ℕ → ℕ → ℕ
root roots i = slice_index roots i

-- each node has a root among the nodes
pub record AreRoots (graph : List Shape) (roots : List ℕ) : Type 0 where
  pub long : length roots ≡ length graph
  pub within : (i : ℕ) → i < length graph → root roots i < length graph

-- each of this many nodes is its own root
pub record AreOwn (count : ℕ) (roots : List ℕ) : Type 0 where
  pub long : length roots ≡ count
  pub own : (i : ℕ) → i < count → root roots i ≡ i

-- one root in the place of another
abbrev pub relabelled : ℕ → ℕ → List ℕ → List ℕ
relabelled from to roots = map (λ r. if r == from then to else r) roots
