-- Values, and rows of values, of at most this many symbols.
use Rattle.std.specs.Prelude.{ℕ, nat_le, List, map, filter}
use Rattle.term_core.specs.Tree.{Tree, tree_size, sizes, trees_of}
use Rattle.term_core.specs.declared.ids.SortId.{SortId}
use Rattle.spec_core.specs.Sig.{Sig}
use Rattle.spec_core.specs.Order.{product, values}

-- the terms of at most this many symbols
abbrev pub small_terms : ℕ → List Tree → List Tree
small_terms bound ts = filter (λ t. nat_le (tree_size t) bound) ts

-- the rows of at most this many symbols altogether
abbrev pub small_rows : ℕ → List (List Tree) → List (List Tree)
small_rows bound rows = filter (λ ts. nat_le (sizes (trees_of ts)) bound) rows

-- the values of the sort with at most this depth and at most this many symbols
unfoldable pub values_within : Sig → ℕ → SortId → ℕ → List Tree
values_within sig depth s bound = small_terms bound (values sig depth s)

-- the rows of values of the sorts, each of at most this depth, with at most this many symbols altogether
unfoldable pub rows_within : Sig → ℕ → List SortId → ℕ → List (List Tree)
rows_within sig depth ss bound = small_rows bound (product (map (λ s. values sig depth s) ss))
