-- How many values a sort has, by their number of symbols.
use Rattle.std.specs.Prelude.{◌≡◌, ℕ, ◌<◌, ◌==◌, min, List, Some, length, map, filter, slice_get, slice_index}
use Rattle.term_core.specs.Tree.{Tree, tree_size, sizes, trees_of}
use Rattle.term_core.specs.declared.ids.SortId.{SortId}
use Rattle.spec_core.specs.Sig.{Sig, SortsAreInRange}
use Rattle.spec_core.specs.Order.{product, values}

-- how many of the items have exactly this size
unfoldable pub number_of_size : {X : Type 0} → (X → ℕ) → List X → ℕ → ℕ
number_of_size size xs n = length (filter (λ x. size x == n) xs)

-- how many of the terms have exactly this many symbols
abbrev pub terms_of_size : List Tree → ℕ → ℕ
terms_of_size ts n = number_of_size tree_size ts n

-- how many of the rows have exactly this many symbols altogether
abbrev pub rows_of_size : List (List Tree) → ℕ → ℕ
rows_of_size rows n = number_of_size (λ ts. sizes (trees_of ts)) rows n

-- how many values of the sort with at most this depth have exactly this many symbols
unfoldable pub values_of_size : Sig → ℕ → SortId → ℕ → ℕ
values_of_size sig depth s n = terms_of_size (values sig depth s) n

-- how many rows of values of the sorts, each of at most this depth, have exactly this many symbols altogether
unfoldable pub value_rows_of_size : Sig → ℕ → List SortId → ℕ → ℕ
value_rows_of_size sig depth ss n = rows_of_size (product (map (λ s. values sig depth s) ss)) n

-- the first 256 numbers of the sequence, each of them or the cap if that is less
pub record IsCapped (cap : ℕ) (f : ℕ → ℕ) (numbers : List ℕ) : Type 0 where
  pub long : length numbers ≡ 256
  pub each : (n : ℕ) → n < 256 → slice_index numbers n ≡ min (f n) cap

-- the table has for each sort how many of its values with at most this depth have this many symbols
pub record AreCounts (sig : Sig) (depth cap : ℕ) (table : List (List ℕ)) : Type 0 where
  pub in_range : SortsAreInRange sig
  pub long : length table ≡ length sig.sorts
  pub each : (s : SortId) (numbers : List ℕ)
      → slice_get table s.0 ≡ Some numbers → IsCapped cap (values_of_size sig depth s) numbers

-- what is counted: the values of a signature's sorts with at most a depth, and up to which number
pub record Counted : Type 0 where
  pub sig : Sig
  pub depth : ℕ
  pub cap : ℕ

abbrev pub counted : Sig → ℕ → ℕ → Counted
counted sig depth cap = record { sig = sig; depth = depth; cap = cap }
