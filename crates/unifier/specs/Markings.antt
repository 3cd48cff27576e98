-- Markings of the nodes of a graph by trees: instances under a substitution, or the sorts.
use Rattle.std.specs.Prelude.{◌≡◌, ℕ, ◌<◌, List, [], ◌∷◌, length}
use Rattle.term_core.specs.Tree.{Tree}
use Rattle.term_core.specs.declared.ids.SymId.{SymId}
use Rattle.unifier.specs.declared.unification.graph.Shape.{Shape}
use Rattle.unifier.specs.declared.unification.graph.Shape.TheVariants.{App}
use Rattle.unifier.specs.Graph.{shape_at, trees_by, built}
use Rattle.unifier.specs.Roots.{root}

-- each application is marked with its symbol, applied to the marks of its arguments
abbrev pub IsModel : List Shape → (ℕ → Tree) → Type 0
IsModel graph mark =
    (i : ℕ) (f : SymId) (cs : List ℕ) →
    i < length graph → shape_at graph i ≡ App f cs → mark i ≡ built mark (App f cs)

-- applications of one symbol to as many arguments that have one mark have the same marks of their
-- arguments
abbrev pub Splits : List Shape → (ℕ → Tree) → Type 0
Splits graph mark =
    (i j : ℕ) (f g : SymId) (cs ds : List ℕ) →
    i < length graph → j < length graph →
    shape_at graph i ≡ App f cs → shape_at graph j ≡ App g ds →
    f.0 ≡ g.0 → length cs ≡ length ds →
    mark i ≡ mark j → trees_by mark cs ≡ trees_by mark ds

-- each node has the mark of its root
abbrev pub Follows : List Shape → List ℕ → (ℕ → Tree) → Type 0
Follows graph roots mark = (i : ℕ) → i < length graph → mark i ≡ mark (root roots i)

-- the two nodes of each pair have one mark
abbrev pub Joins : (ℕ → Tree) → List (ℕ × ℕ) → Type 0
Joins mark [] = Unit {0}
Joins mark (p ∷ ps) = (mark p.0 ≡ mark p.1) × Joins mark ps
