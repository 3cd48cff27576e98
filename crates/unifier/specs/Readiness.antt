-- Nodes from which each way down is known to end.
use Rattle.std.specs.Prelude.{◌≡◌, ℕ, suc, ◌<◌, Bool, true, false, List, [], ◌∷◌, length, slice_index_or}
use Rattle.unifier.specs.declared.unification.graph.Shape.{Shape}
use Rattle.unifier.specs.Graph.{shape_at}
use Rattle.unifier.specs.Roots.{root}
use Rattle.unifier.specs.Cycles.{EachArg, SomeArg, Ends}

-- whether the node is marked as ready
abbrev pub is_ready : List Bool → ℕ → Bool
is_ready ready i = slice_index_or ready i false

-- the root of each argument is ready
abbrev pub AreReady : List ℕ → List Bool → Shape → Type 0
AreReady roots ready shape = EachArg (λ c. is_ready ready (root roots c) ≡ true) shape

-- the root of some argument isn't ready
abbrev pub IsHeld : List ℕ → List Bool → Shape → Type 0
IsHeld roots ready shape = SomeArg (λ c. is_ready ready (root roots c) ≡ false) shape

-- how many nodes are ready
abbrev pub marks : List Bool → ℕ
marks [] = 0
marks (true ∷ bs) = suc (marks bs)
marks (false ∷ bs) = marks bs

-- each way down from a node that is ready has fewer steps than nodes are ready
abbrev pub IsMarked : List Shape → List ℕ → List Bool → Type 0
IsMarked graph roots ready =
    (i : ℕ) → i < length graph → is_ready ready i ≡ true → Ends graph roots (marks ready) i

-- each of the first n nodes that isn't ready has an argument that isn't
abbrev pub AreStuck : List Shape → List ℕ → List Bool → ℕ → Type 0
AreStuck graph roots ready n =
    (i : ℕ) → i < n → is_ready ready i ≡ false → IsHeld roots ready (shape_at graph i)
