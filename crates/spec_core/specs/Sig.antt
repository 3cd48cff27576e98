-- What a signature declares.
use Rattle.std.specs.Prelude.{◌≡◌, ℕ, ◌<◌, List, Option, Some, slice_get, option_map, map, length}
use Rattle.std.specs.List.{AllByRecursion}
use Rattle.term_core.specs.declared.ids.SortId.{SortId}
use Rattle.spec_core.specs.declared.records.SymInfo.{SymInfo}

-- the names of the sorts, the symbols by number, and how many of them are constructors, which come first
pub record Sig : Type 0 where
  pub sorts : List (List ℕ)
  pub table : List (List ℕ × SymInfo)
  pub constructors : ℕ

-- the arguments and the result that a symbol is declared with
abbrev pub info_of : Sig → ℕ → Option SymInfo
info_of sig f = option_map (λ (e : List ℕ × SymInfo). e.1) (slice_get sig.table f)

abbrev pub IsConstructor : Sig → ℕ → Type 0
IsConstructor sig f = f < sig.constructors

-- the sort is one of the signature's
abbrev pub IsSort : Sig → SortId → Type 0
IsSort sig s = s.0 < length sig.sorts

-- the sorts of each symbol are sorts of the signature
abbrev pub SortsAreInRange : Sig → Type 0
SortsAreInRange sig = (f : ℕ) (i : SymInfo) → info_of sig f ≡ Some i → IsSort sig i.result
    × AllByRecursion (IsSort sig) i.args

-- the names of the symbols, by number
abbrev pub names_of : Sig → List (List ℕ)
names_of sig = map (λ (e : List ℕ × SymInfo). e.0) sig.table
