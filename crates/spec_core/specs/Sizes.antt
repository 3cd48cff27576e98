-- Least sizes by rounds.
use Rattle.std.specs.Prelude.{◌≡◌, ℕ, ◌+◌, ◌<◌, ◌≤◌, List, [], ◌∷◌, Some, length, min, slice_index}
use Rattle.term_core.specs.Tree.{Tree, tree_size}
use Rattle.term_core.specs.declared.ids.SortId.{SortId}
use Rattle.spec_core.specs.declared.records.SymInfo.{SymInfo}
use Rattle.spec_core.specs.Sig.{Sig, info_of}
use Rattle.spec_core.specs.Sorts.{IsValue}
use Rattle.spec_core.specs.Small.{sort_of_number, IsLeast, HasSmallValue}

-- the sum of the sorts' numbers
abbrev pub sum_of : List ℕ → List SortId → ℕ
sum_of least [] = 0
sum_of least (s ∷ ss) = slice_index least s.0 + sum_of least ss

module _ (sig : Sig) (least : List ℕ) where
  -- some value of the sort has as many symbols as its number says
  abbrev pub IsReached : ℕ → Type 0
  IsReached s = (v : Tree) × IsValue sig (sort_of_number s) v × (tree_size v ≡ slice_index least s)

  -- a number of at most 255 is the size of a value, and 256 says nothing
  pub record AreReached : Type 0 where
    pub long : length least ≡ length sig.sorts
    pub bounded : (s : ℕ) → slice_index least s ≤ 256
    pub reached : (s : ℕ) → s < length sig.sorts → slice_index least s ≤ 255 → IsReached s

  -- the constructor's applications don't give less
  abbrev pub IsSettledAt : ℕ → Type 0
  IsSettledAt c = (i : SymInfo) → info_of sig c ≡ Some i
      → slice_index least i.result.0 ≤ min (1 + sum_of least i.args) 256

  -- no constructor's applications give less
  abbrev pub AreSettled : Type 0
  AreSettled = (c : ℕ) → c < sig.constructors → IsSettledAt c

  -- each sort's number is its least size, or 256 if that is more than 255
  pub record AreLeast : Type 0 where
    pub long : length least ≡ length sig.sorts
    pub bounded : (s : ℕ) → slice_index least s ≤ 256
    pub is_least : (s : ℕ) → s < length sig.sorts → slice_index least s ≤ 255
        → IsLeast sig (sort_of_number s) (slice_index least s)
    pub has_none : (s : ℕ) → s < length sig.sorts → 255 < slice_index least s
        → HasSmallValue sig (sort_of_number s) → ⊥
