-- Columns of rows.
use Rattle.std.specs.Prelude.{◌≡◌, ℕ, zero, suc, ◌+◌, ◌<◌, ◌≤◌, List, [], ◌∷◌, Bool, true, false, if◌then◌else◌}
use Rattle.std.specs.Prelude.{slice_index_or}
use Rattle.term_core.specs.Tree.{Tree, var, app}

-- the pattern is a variable, or it isn't
abbrev pub IsVariable : Tree → Type 0
IsVariable (var n) = Unit {0}
IsVariable (app f ts) = ⊥

abbrev pub is_application : Tree → Bool
is_application (var n) = false
is_application (app f ts) = true

-- the pattern at the column is there and no variable
abbrev pub has_symbol_at : ℕ → List Tree → Bool
has_symbol_at column row = is_application (slice_index_or row column (var 0))

-- the number of rows with a symbol at the column
abbrev pub symbols_at : ℕ → List (List Tree) → ℕ
symbols_at column [] = 0
symbols_at column (row ∷ rows) =
    if has_symbol_at column row then 1 + symbols_at column rows else symbols_at column rows

-- the first of the columns at which most rows have a symbol, and some row has one
pub record IsBusiest (rows : List (List Tree)) (columns : ℕ) (column : ℕ) : Type 0 where
  pub within : column < columns
  pub some : 0 < symbols_at column rows
  pub most : (k : ℕ) → k < columns → symbols_at k rows ≤ symbols_at column rows
  pub first : (k : ℕ) → k < column → symbols_at k rows < symbols_at column rows

-- no row has a symbol at a column
abbrev pub HasNoSymbols : List (List Tree) → ℕ → Type 0
HasNoSymbols rows columns = (k : ℕ) → k < columns → symbols_at k rows ≡ 0

-- the item comes after the first one
abbrev pub behind_first : {X : Type 0} → X → List X → List X
behind_first x [] = x ∷ []
behind_first x (y ∷ ys) = y ∷ (x ∷ ys)

-- the list with the item at this place before the others
abbrev pub fronted : {X : Type 0} → ℕ → List X → List X
fronted zero xs = xs
fronted (suc k) [] = []
fronted (suc k) (x ∷ xs) = behind_first x (fronted k xs)
