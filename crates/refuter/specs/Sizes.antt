-- Numbers of symbols that are kept for the places of a bank.
use Rattle.std.specs.Prelude.{◌≡◌, ◌+◌, ◌<◌, ◌≤◌, ◌⊎◌, ℕ, min, List, Some, slice_get}
use Rattle.std.specs.List.{AllByRecursion}
use Rattle.term_core.specs.Tree.{Tree, tree_size, sizes as symbols, trees_of}
use Rattle.value_bank.specs.Cells.{Cell, IsTerm, AreTerms}

-- the value at the place has this many symbols, or at least 4096 if it is this number
abbrev pub GivesSize : List Cell → ℕ → ℕ → Type 0
GivesSize cells place size = (t : Tree) × IsTerm cells place t × (size ≡ min (tree_size t) 4096)

-- each number but 0 is that of the symbols of the value at its place
unfoldable pub AreSizes : List Cell → List ℕ → Type 0
AreSizes cells kept =
    (place size : ℕ) → slice_get kept place ≡ Some size → 0 < size → GivesSize cells place size

-- the number, if it isn't 0, is that of the symbols of a value with arguments at these places
abbrev pub IsSizeBy : List ℕ → List ℕ → ℕ → Type 0
IsSizeBy kept args size =
    0 < size → (cells : List Cell) → AreSizes cells kept
    → (ts : List Tree) × AreTerms cells args (trees_of ts)
    × (size ≡ min (1 + symbols (trees_of ts)) 4096)

-- each number but 0 is the one of this place, or was there before
abbrev pub IsNoted : List ℕ → ℕ → ℕ → List ℕ → Type 0
IsNoted old place size new =
    (k n : ℕ) → slice_get new k ≡ Some n → 0 < n
    → ((k ≡ place) × (n ≡ size)) ⊎ (slice_get old k ≡ Some n)

-- values of at most 255 symbols are at the places
abbrev pub CanRead : List Cell → List ℕ → Type 0
CanRead cells places =
    (row : List Tree) × AreTerms cells places (trees_of row)
    × AllByRecursion (λ t. tree_size t ≤ 255) row
