-- Lists of values, and the rows of patterns that they match.
use Rattle.std.specs.Prelude.{◌≡◌, ◌⊎◌, List, [], ◌∷◌}
use Rattle.term_core.specs.Tree.{Tree, instances, trees_of}
use Rattle.term_core.specs.declared.ids.SortId.{SortId}
use Rattle.spec_core.specs.Sig.{Sig}
use Rattle.spec_core.specs.Sorts.{SortedAll, AreBuilt}

-- values of the sorts, one of each
abbrev pub AreValues : Sig → List SortId → List Tree → Type 0
AreValues sig sorts vs = SortedAll sig [] (trees_of vs) sorts × AreBuilt sig (trees_of vs)

-- some substitution makes the values out of the row
abbrev pub MatchesRow : List Tree → List Tree → Type 0
MatchesRow row vs = (xs : List Tree) × (instances xs (trees_of row) ≡ trees_of vs)

-- the values match one of the rows
abbrev pub MatchesSome : List (List Tree) → List Tree → Type 0
MatchesSome [] vs = ⊥
MatchesSome (row ∷ rows) vs = MatchesRow row vs ⊎ MatchesSome rows vs

-- values of the sorts that match no row
abbrev pub IsMissing : Sig → List (List Tree) → List SortId → List Tree → Type 0
IsMissing sig rows sorts vs = AreValues sig sorts vs × (MatchesSome rows vs → ⊥)

-- all values of the sorts match some row
abbrev pub AreCovered : Sig → List (List Tree) → List SortId → Type 0
AreCovered sig rows sorts = (vs : List Tree) → AreValues sig sorts vs → MatchesSome rows vs
