-- The sorts of the constants for the variables of a goal.
use Rattle.std.specs.Prelude.{◌≡◌, ◌≢◌, ◌⊎◌, ℕ, List, [], ◌∷◌, Some, slice_get}
use Rattle.term_core.specs.declared.ids.SortId.{SortId}
use Rattle.spec_core.specs.declared.records.VarInfo.{VarInfo}
use Rattle.spec_core.specs.WellSorted.{sorts_of}

-- the sort of a variable, other than Bool
abbrev pub IsOther : List VarInfo → SortId → Type 0
IsOther vars s = (s.0 ≢ 0) × (k : ℕ) × (slice_get (sorts_of vars) k ≡ Some s)

-- the variable's sort, or the other one for Bool
abbrev pub IsFilled : SortId → SortId → SortId → Type 0
IsFilled other own s = ((own.0 ≢ 0) × (s ≡ own)) ⊎ ((own.0 ≡ 0) × (s ≡ other))

abbrev pub AreFilled : SortId → List VarInfo → List SortId → Type 0
AreFilled other [] [] = Unit {0}
AreFilled other (v ∷ vs) (s ∷ ss) = IsFilled other v.sort s × AreFilled other vs ss
AreFilled other [] (s ∷ ss) = ⊥
AreFilled other (v ∷ vs) [] = ⊥
