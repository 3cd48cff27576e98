-- The number of symbols in rows, which falls when rows are opened.
use Rattle.std.proofs.Common.{◌≡◌, ℕ, zero, suc, ◌+◌, ◌<◌, ◌≤◌, List, [], ◌∷◌, ◌++◌, Bool, true, false, cond, map}
use Rattle.std.proofs.Common.{length, refl, ap, sym, ◌∙◌, arith}
use Rattle.std.specs.Prelude.{◌==◌, replicate}
use Rattle.std.specs.List.{AllByRecursion}
use Rattle.term_core.specs.Tree.{Tree, Trees, var, app, none, some, trees_of, list_of}
use Rattle.coverage_check.specs.Opened.{opened, rests}
use Rattle.coverage_check.specs.Columns.{has_symbol_at, symbols_at, behind_first, fronted}
use Rattle.coverage_check.proofs.Fronts.{fronted_is}

abbrev mutual
  pub symbols : Tree → ℕ
  symbols (var n) = 0
  symbols (app f ts) = 1 + symbols_all ts

  pub symbols_all : Trees → ℕ
  symbols_all none = 0
  symbols_all (some t ts) = symbols t + symbols_all ts

abbrev pub symbol_count : List (List Tree) → ℕ
symbol_count [] = 0
symbol_count (row ∷ rows) = symbols_all (trees_of row) + symbol_count rows

symbols_join : (ts : Trees) (ps : List Tree) →
    symbols_all (trees_of (list_of ts ++ ps)) ≡ symbols_all ts + symbols_all (trees_of ps)
symbols_join none ps = omega arith
symbols_join (some t ts) ps = omega (arith, symbols_join ts ps)

no_symbols_join : (n : ℕ) (ps : List Tree) →
    symbols_all (trees_of (replicate n (var 0) ++ ps)) ≡ symbols_all (trees_of ps)
no_symbols_join zero ps = refl
no_symbols_join (suc n) ps = omega (arith, no_symbols_join n ps)

-- each row that begins with a symbol loses one
pub opened_count : (c n : ℕ) (rows : List (List Tree)) →
    symbol_count (opened c n rows) + symbols_at 0 rows ≤ symbol_count rows
opened_count c n [] = omega arith
opened_count c n ([] ∷ rows) = omega (arith, opened_count c n rows)
opened_count c n ((var m ∷ ps) ∷ rows) = omega (arith, opened_count c n rows, no_symbols_join n ps)
opened_count c n ((app f ts ∷ ps) ∷ rows) = by (f == c) (opened_count c n rows)
  where
    by : (b : Bool) → symbol_count (opened c n rows) + symbols_at 0 rows ≤ symbol_count rows →
        symbol_count (cond b ((list_of ts ++ ps) ∷ opened c n rows) (opened c n rows)) +
        (1 + symbols_at 0 rows) ≤ 1 + symbols_all ts + symbols_all (trees_of ps) + symbol_count rows
    by true h = omega (arith, symbols_join ts ps)
    by false h = omega arith

behind_count : (t : Tree) (ts : List Tree) →
    symbols_all (trees_of (behind_first t ts)) ≡ symbols t + symbols_all (trees_of ts)
behind_count t [] = refl
behind_count t (u ∷ us) = omega arith

row_count : (k : ℕ) (row : List Tree) → symbols_all (trees_of (fronted k row)) ≡ symbols_all (trees_of row)
row_count zero row = refl
row_count (suc k) [] = refl
row_count (suc k) (t ∷ ts) = omega (arith, behind_count t (fronted k ts), row_count k ts)

pub fronted_count : (k : ℕ) (rows : List (List Tree)) → symbol_count (map (fronted k) rows) ≡ symbol_count rows
fronted_count k [] = refl
fronted_count k (row ∷ rows) = omega (arith, row_count k row, fronted_count k rows)

-- the column is the first if it comes before the others
has_fronted : (k : ℕ) (row : List Tree) → k < length row → has_symbol_at 0 (fronted k row) ≡ has_symbol_at k row
has_fronted k row h = ap (λ r. has_symbol_at 0 r) (sym (fronted_is k row (var 0) h))

pub symbols_fronted : (k : ℕ) (rows : List (List Tree)) →
    AllByRecursion (λ (row : List Tree). k < length row) rows → symbols_at 0 (map (fronted k) rows) ≡ symbols_at k rows
symbols_fronted k [] h = refl
symbols_fronted k (row ∷ rows) h =
    let one = has_fronted k row h.0 in
    let more = symbols_fronted k rows h.1 in
    ap (λ b. cond b (1 + symbols_at 0 (map (fronted k) rows)) (symbols_at 0 (map (fronted k) rows))) one
    ∙ ap (λ n. cond (has_symbol_at k row) (1 + n) n) more

-- a row without patterns has no symbol at a column
pub empty_rows : (rows : List (List Tree)) → AllByRecursion (λ (row : List Tree). row ≡ []) rows → symbols_at 0 rows ≡ 0
empty_rows [] h = refl
empty_rows (row ∷ rows) h =
    ap (λ r. cond (has_symbol_at 0 r) (1 + symbols_at 0 rows) (symbols_at 0 rows)) h.0 ∙ empty_rows rows h.1

-- rests of rows that begin with variables
pub rests_count : (rows : List (List Tree)) → symbol_count (rests rows) ≤ symbol_count rows
rests_count [] = omega arith
rests_count ([] ∷ rows) = omega (arith, rests_count rows)
rests_count ((p ∷ ps) ∷ rows) = omega (arith, rests_count rows)
