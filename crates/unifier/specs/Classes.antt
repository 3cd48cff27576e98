-- Classes that are closed but for some pairs of nodes that are still to be joined.
use Rattle.std.specs.Prelude.{◌≡◌, ℕ, ◌<◌, List, [], ◌∷◌, length}
use Rattle.term_core.specs.Tree.{Tree}
use Rattle.term_core.specs.declared.ids.SymId.{SymId}
use Rattle.unifier.specs.declared.unification.graph.Shape.{Shape}
use Rattle.unifier.specs.declared.unification.graph.Shape.TheVariants.{App}
use Rattle.unifier.specs.Graph.{shape_at, trees_by}
use Rattle.unifier.specs.Roots.{root}
use Rattle.unifier.specs.Markings.{Follows, Joins}

-- the pairs are of the first n nodes
abbrev pub AreWithin : ℕ → List (ℕ × ℕ) → Type 0
AreWithin n [] = Unit {0}
AreWithin n (p ∷ ps) = (p.0 < n) × (p.1 < n) × AreWithin n ps

-- node j is an application of the symbol to as many arguments, with the same marks if classes
-- and pairs have one mark each
abbrev pub IsLike : List Shape → List ℕ → List (ℕ × ℕ) → SymId → List ℕ → ℕ → Type 0
IsLike graph roots pending f cs j =
    (g : SymId) × (ds : List ℕ)
    × (shape_at graph j ≡ App g ds) × (f.0 ≡ g.0) × (length cs ≡ length ds)
    × ((mark : ℕ → Tree) →
    Follows graph roots mark → Joins mark pending → trees_by mark cs ≡ trees_by mark ds)

-- the roots are nodes and their own roots, and each application is like its root
pub record Classes (graph : List Shape) (roots : List ℕ) (pending : List (ℕ × ℕ)) : Type 0 where
  pub long : length roots ≡ length graph
  pub within : (i : ℕ) → i < length graph → root roots i < length graph
  pub still : (i : ℕ) → i < length graph → root roots (root roots i) ≡ root roots i
  pub waiting : AreWithin (length graph) pending
  pub closed : (i : ℕ) (f : SymId) (cs : List ℕ) →
      i < length graph → shape_at graph i ≡ App f cs →
      IsLike graph roots pending f cs (root roots i)
