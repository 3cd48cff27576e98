-- Ways down in a graph, from a node to the root of an argument's class.
use Rattle.std.specs.Prelude.{ℕ, zero, suc, ◌<◌, List, length, slice_index}
use Rattle.term_core.specs.Tree.{Tree}
use Rattle.unifier.specs.declared.unification.graph.Shape.{Shape}
use Rattle.unifier.specs.declared.unification.graph.Shape.TheVariants.{Var, App}
use Rattle.unifier.specs.Graph.{shape_at}
use Rattle.unifier.specs.Roots.{root}
use Rattle.unifier.specs.Markings.{IsModel, Follows}

-- each argument is such a node
abbrev pub EachArg : (ℕ → Type 0) → Shape → Type 0
EachArg P (Var v) = Unit {0}
EachArg P (App f cs) = (k : ℕ) → k < length cs → P (slice_index cs k)

-- some argument is such a node
abbrev pub SomeArg : (ℕ → Type 0) → Shape → Type 0
SomeArg P (Var v) = ⊥
SomeArg P (App f cs) = (k : ℕ) × (k < length cs) × P (slice_index cs k)

-- each way down from the node has fewer than this many steps
abbrev pub Ends : List Shape → List ℕ → ℕ → ℕ → Type 0
Ends graph roots zero i = ⊥
Ends graph roots (suc k) i = EachArg (λ c. Ends graph roots k (root roots c)) (shape_at graph i)

-- each way down has fewer steps than there are nodes
abbrev pub IsAcyclic : List Shape → List ℕ → Type 0
IsAcyclic graph roots = (i : ℕ) → i < length graph → Ends graph roots (length graph) i

-- no instances give the nodes of each class one tree
abbrev pub HasNoModel : List Shape → List ℕ → Type 0
HasNoModel graph roots = (mark : ℕ → Tree) → IsModel graph mark → Follows graph roots mark → ⊥
