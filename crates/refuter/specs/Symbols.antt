-- How many symbols a next value has, or a next row of values. A bank gets no more cells for it.
use Rattle.std.specs.Prelude.{ℕ, List, Option, Some, None}
use Rattle.term_core.specs.Tree.{Tree, tree_size, sizes, trees_of}

-- the symbols of the value, or none if there is no value
abbrev pub value_symbols : Option Tree → ℕ
value_symbols None = 0
value_symbols (Some t) = tree_size t

-- the symbols of the row's values, or none if there is no row
abbrev pub row_symbols : Option (List Tree) → ℕ
row_symbols None = 0
row_symbols (Some ts) = sizes (trees_of ts)
