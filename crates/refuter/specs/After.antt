-- What comes after a value, and after a row of values, in the order of a search.
use Rattle.std.specs.Prelude.{ℕ, zero, suc, ◌+◌, ◌-◌, min, List, [], ◌∷◌, ◌++◌, Option, Some, None, map, drop}
use Rattle.std.specs.List.{flat_map}
use Rattle.term_core.specs.Tree.{Tree, var, app, tree_size, trees_of, list_of}
use Rattle.term_core.specs.declared.ids.SortId.{SortId}
use Rattle.spec_core.specs.declared.records.SymInfo.{SymInfo}
use Rattle.spec_core.specs.Sig.{Sig, info_of}
use Rattle.spec_core.specs.Order.{constructors_from}
use Rattle.refuter.specs.Bounded.{rows_within}
use Rattle.refuter.specs.Fewest.{fewest, total}

-- the sorts of the symbol's arguments
abbrev pub args_in : Option SymInfo → List SortId
args_in None = []
args_in (Some i) = i.args

unfoldable pub args_of : Sig → ℕ → List SortId
args_of sig f = args_in (info_of sig f)

module _ (sig : Sig) where
  -- the constructors of the sort from this number on
  unfoldable pub constructors_after : ℕ → SortId → List (ℕ × List SortId)
  constructors_after f s = constructors_from f (sig.constructors - f) s (drop f sig.table)

  -- the room for the arguments if an application has at most this many symbols
  unfoldable pub room_within : ℕ → ℕ
  room_within bound = min bound 255 - 1

  -- the constructor's applications of at most one more than this depth and at most this many symbols
  unfoldable pub applications : ℕ → ℕ → ℕ × List SortId → List Tree
  applications depth bound c =
      map (λ ts. app c.0 (trees_of ts)) (rows_within sig depth c.1 (room_within bound))

  -- the applications of the constructors from this number on
  unfoldable pub made_from : ℕ → SortId → ℕ → ℕ → List Tree
  made_from depth s bound f = flat_map (λ c. applications depth bound c) (constructors_after f s)

  -- the rows that begin with one of the terms
  unfoldable pub rows_on : ℕ → List SortId → ℕ → List Tree → List (List Tree)
  rows_on depth ss bound ts =
      flat_map (λ t. map (λ r. t ∷ r) (rows_within sig depth ss (bound - tree_size t))) ts

  -- the room for the first value if the fewest symbols of the others are left free
  unfoldable pub room_before : ℕ → List SortId → ℕ → ℕ
  room_before depth ss bound = bound - total (λ s. fewest sig depth s) ss

  -- the rows after this one, where a value is followed by what `later` says
  abbrev pub rows_after_by : (SortId → ℕ → Tree → List Tree) → ℕ → List SortId → ℕ → List Tree
      → List (List Tree)
  rows_after_by later depth [] bound ts = []
  rows_after_by later depth (s ∷ ss) bound [] = []
  rows_after_by later depth (s ∷ ss) bound (t ∷ ts) =
      map (λ r. t ∷ r) (rows_after_by later depth ss (bound - tree_size t) ts)
      ++ rows_on depth ss bound (later s (room_before depth ss bound) t)

  -- the values after this one
  unfoldable pub values_after : ℕ → SortId → ℕ → Tree → List Tree
  values_after zero s bound t = []
  values_after (suc depth) s bound (var n) = []
  values_after (suc depth) s bound (app f ts) =
      map (λ r. app f (trees_of r))
      (rows_after_by (λ u b t. values_after depth u b t) depth (args_of sig f)
      (room_within bound) (list_of ts))
      ++ made_from depth s bound (f + 1)

  -- the rows after this one
  unfoldable pub rows_after : ℕ → List SortId → ℕ → List Tree → List (List Tree)
  rows_after depth ss bound ts = rows_after_by (λ u b t. values_after depth u b t) depth ss bound ts
