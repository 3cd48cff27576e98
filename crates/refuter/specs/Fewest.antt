-- The fewest symbols of a value of a sort with at most a depth.
use Rattle.std.specs.Prelude.{◌≡◌, ℕ, zero, suc, ◌+◌, ◌-◌, ◌<◌, min, nat_le, if◌then◌else◌, List, [], ◌∷◌, Some}
use Rattle.std.specs.Prelude.{length, slice_get, slice_index}
use Rattle.term_core.specs.declared.ids.SortId.{SortId}
use Rattle.spec_core.specs.Sig.{Sig, IsSort}
use Rattle.spec_core.specs.Order.{constructors_of}

-- the sum of the sorts' numbers
abbrev pub total : (SortId → ℕ) → List SortId → ℕ
total f [] = 0
total f (s ∷ ss) = f s + total f ss

-- the number, or the other if that is less and at most 255
unfoldable pub lowered : ℕ → ℕ → ℕ
lowered number other = if nat_le other 255 then min number other else number

-- the number, lowered by an application of each constructor to arguments of this many symbols
abbrev pub lowered_by : (SortId → ℕ) → ℕ → List (ℕ × List SortId) → ℕ
lowered_by f number [] = number
lowered_by f number (c ∷ cs) = lowered_by f (lowered number (1 + total f c.1)) cs

-- the fewest symbols of a value of the sort with at most this depth, or 4096 if there is no value
unfoldable pub fewest : Sig → ℕ → SortId → ℕ
fewest sig zero s = 4096
fewest sig (suc depth) s =
    lowered_by (λ u. fewest sig depth u) (fewest sig depth s) (constructors_of sig s)

-- the numbers of a row, by sort
abbrev pub number_in : List ℕ → SortId → ℕ
number_in row s = slice_index row s.0

-- the row has for each sort the fewest symbols of its values with at most this depth
pub record IsRowOf (sig : Sig) (depth : ℕ) (row : List ℕ) : Type 0 where
  pub long : length row ≡ length sig.sorts
  pub numbers : (s : SortId) → IsSort sig s → number_in row s ≡ fewest sig depth s

-- there is a row for each depth from 0 on, and beyond the last row the numbers stay as they are
pub record AreRowsOf (sig : Sig) (rows : List (List ℕ)) : Type 0 where
  pub some : 0 < length rows
  pub each : (depth : ℕ) (row : List ℕ) → slice_get rows depth ≡ Some row → IsRowOf sig depth row
  pub last : (s : SortId)
      → IsSort sig s → fewest sig (length rows) s ≡ fewest sig (length rows - 1) s
