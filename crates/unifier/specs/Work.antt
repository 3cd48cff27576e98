-- A number that falls with each pair of nodes that is joined.
use Rattle.std.specs.Prelude.{ℕ, suc, ◌+◌, ◌*◌, ◌==◌, if◌then◌else◌, List, [], ◌∷◌, length}
use Rattle.unifier.specs.declared.unification.graph.Shape.{Shape}
use Rattle.unifier.specs.declared.unification.graph.Shape.TheVariants.{Var, App}

-- one if the two are the same, and nothing otherwise
abbrev pub one_if : ℕ → ℕ → ℕ
one_if r k = if r == k then 1 else 0

-- how many nodes are their own roots, where the first node has the number k
abbrev pub count_roots : ℕ → List ℕ → ℕ
count_roots k [] = 0
count_roots k (r ∷ rs) = one_if r k + count_roots (suc k) rs

-- the number of arguments at a node
abbrev pub width : Shape → ℕ
width (Var v) = 0
width (App f cs) = length cs

-- the number of arguments at all nodes
abbrev pub widths : List Shape → ℕ
widths [] = 0
widths (s ∷ ss) = width s + widths ss

-- the pairs, and for each class one more than all arguments, which is more than a join can add
abbrev pub work : List Shape → List ℕ → List (ℕ × ℕ) → ℕ
work graph roots pending = count_roots 0 roots * (widths graph + 1) + length pending
