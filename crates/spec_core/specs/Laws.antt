-- Laws of the definitions.
use Rattle.std.specs.Prelude.{◌≡◌, ℕ, []}
use Rattle.term_core.specs.Tree.{Tree, tree_size}
use Rattle.term_core.specs.declared.ids.SortId.{SortId}
use Rattle.spec_core.specs.declared.records.Spec.{Spec}
use Rattle.spec_core.specs.Sig.{Sig}
use Rattle.spec_core.specs.Sorts.{Sorted, IsValue}
use Rattle.spec_core.specs.Small.{IsLeast, IsSmall}
use Rattle.spec_core.specs.Gives.{Gives}
use Rattle.spec_core.specs.WellSorted.{IsWellSorted}
use Rattle.spec_core.specs.Overlap.{NoOverlap}
use Rattle.spec_core.specs.Groups.{GroupsAreWhole}

-- a sorted term has at most one value and one cost
abbrev pub OneValue : Type 0
OneValue =
    (spec : Spec) (t v w : Tree) (n m : ℕ) (s : SortId) → IsWellSorted spec → NoOverlap spec
    → GroupsAreWhole spec → Sorted spec.sig [] t s → Gives spec t v n → Gives spec t w m
    → (v ≡ w) × (n ≡ m)

-- a sort has at most one small value, which is a value of it, and none has fewer symbols
abbrev pub OneSmallValue : Type 0
OneSmallValue =
    (sig : Sig) (s : SortId) (t u : Tree) → IsSmall sig s t → IsSmall sig s u → (t ≡ u)
    × IsValue sig s t × IsLeast sig s (tree_size t)
