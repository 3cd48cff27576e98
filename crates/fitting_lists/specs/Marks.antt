-- Marks of variables: which of them a walk over terms has met.
use Rattle.std.specs.Prelude.{◌≡◌, ◌↔◌, ◌⊎◌, ℕ, List, Bool, true, IsTrue, length, slice_index_or}

-- the variable with this number has its mark, or there is no place for one
abbrev pub IsMarked : List Bool → ℕ → Type 0
IsMarked marks n = IsTrue (slice_index_or marks n true)

-- the marks after a walk: the earlier ones, and those of the variables that occur
pub record MarksMore (old new : List Bool) (occurs : ℕ → Type 0) : Type 0 where
  pub places : length new ≡ length old
  pub marked : (n : ℕ) → IsMarked new n ↔ (IsMarked old n ⊎ occurs n)
