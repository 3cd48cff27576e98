-- Rows opened at a constructor.
use Rattle.std.specs.Prelude.{ℕ, List, [], ◌∷◌, ◌++◌, ◌==◌, if◌then◌else◌, map, replicate}
use Rattle.term_core.specs.Tree.{Tree, var, app, list_of}

-- the first pattern is a variable
abbrev pub BeginsWithVariable : List Tree → Type 0
BeginsWithVariable [] = ⊥
BeginsWithVariable (var n ∷ ps) = Unit {0}
BeginsWithVariable (app f ts ∷ ps) = ⊥

-- the row without its first pattern
abbrev pub rest_of : List Tree → List Tree
rest_of [] = []
rest_of (p ∷ ps) = ps

-- the rows without their first patterns
abbrev pub rests : List (List Tree) → List (List Tree)
rests rows = map rest_of rows

-- before other rows, a row that is opened at a constructor with this number of arguments: the
-- constructor gives way to its arguments, a variable to as many variables, and a row that begins
-- with another constructor is left out
abbrev pub opened_before : ℕ → ℕ → List Tree → List (List Tree) → List (List Tree)
opened_before c count [] rows = rows
opened_before c count (var n ∷ ps) rows = (replicate count (var 0) ++ ps) ∷ rows
opened_before c count (app f ts ∷ ps) rows = if f == c then (list_of ts ++ ps) ∷ rows else rows

-- the rows opened at a constructor with this number of arguments
abbrev pub opened : ℕ → ℕ → List (List Tree) → List (List Tree)
opened c count [] = []
opened c count (row ∷ rows) = opened_before c count row (opened c count rows)
