-- The rows of a function: the argument patterns of its left sides.
use Rattle.std.specs.Prelude.{◌≡◌, ◌↔◌, ℕ, ◌==◌, List, [], ◌∷◌, Some, if◌then◌else◌}
use Rattle.std.specs.List.{AllByRecursion, flat_map}
use Rattle.term_core.specs.Tree.{Tree, var, app, list_of, trees_of}
use Rattle.spec_core.specs.declared.records.SymInfo.{SymInfo}
use Rattle.spec_core.specs.declared.records.Rule.{Rule}
use Rattle.spec_core.specs.declared.records.Spec.{Spec}
use Rattle.spec_core.specs.Sig.{info_of}
use Rattle.spec_core.specs.Covering.{IsMatched}
use Rattle.coverage_check.specs.Rows.{IsRow}
use Rattle.coverage_check.specs.Values.{MatchesSome}

-- the arguments of a call of the function, and no row of another term
abbrev pub row_of : ℕ → Tree → List (List Tree)
row_of f (var n) = []
row_of f (app g ts) = if g == f then list_of ts ∷ [] else []

-- the rows of the rules, in their order
abbrev pub rows_of : ℕ → List Rule → List (List Tree)
rows_of f rules = flat_map (λ (r : Rule). row_of f r.left) rules

-- rows of the argument sorts of the function
abbrev pub AreRowsFor : Spec → ℕ → List (List Tree) → Type 0
AreRowsFor spec f rows =
    (i : SymInfo) → info_of spec.sig f ≡ Some i → AllByRecursion (IsRow spec.sig i.args) rows

-- the rows match what the left sides of the function match
abbrev pub MatchLeftSides : Spec → ℕ → List (List Tree) → Type 0
MatchLeftSides spec f rows =
    (vs : List Tree) → MatchesSome rows vs ↔ IsMatched spec f (trees_of vs)
