-- The precedence of symbols, by levels, and the orders in which their arguments are compared.
use Rattle.std.specs.Prelude.{◌≡◌, ℕ, zero, suc, ◌+◌, ◌<◌, Bool, true, ◌&&◌, ◌==◌, if◌then◌else◌, IsTrue, List, []}
use Rattle.std.specs.Prelude.{◌∷◌, length, map, Option, slice_get, slice_index_or}
use Rattle.std.specs.List.{AllByRecursion, range_with_len}

-- how often the number is in the list
abbrev pub times : ℕ → List ℕ → ℕ
times n [] = 0
times n (p ∷ ps) = (if p == n then 1 else 0) + times n ps

-- each number from 1 to m is in the list once
abbrev pub has_once : ℕ → List ℕ → Bool
has_once zero ps = true
has_once (suc m) ps = (times (suc m) ps == 1) && has_once m ps

-- an order of arguments: each number from 1 to the list's length is in it once
abbrev pub is_status : List ℕ → Bool
is_status ps = has_once (length ps) ps

-- the level of each symbol, and the numbers of its arguments, from 1, in the order of comparison
pub record Precedence : Type 0 where
  pub levels : List ℕ
  pub statuses : List (List ℕ)

-- a symbol beyond the list has its number as level
abbrev pub level : Precedence → ℕ → ℕ
level o f = slice_index_or o.levels f f

-- a symbol beyond the list has no status: its arguments are compared as written
abbrev pub status : Precedence → ℕ → Option (List ℕ)
status o f = slice_get o.statuses f

-- the level of each symbol is its number, and its arguments are compared as written
abbrev pub by_number : Precedence
by_number = record { levels = []; statuses = [] }

-- the same, written out for symbols that have these numbers of arguments
abbrev pub written_by_number : List ℕ → Precedence
written_by_number arities = record {
  levels = range_with_len 0 (length arities);
  statuses = map (range_with_len 1) arities;
}

-- each of the lists is an order of arguments
abbrev pub AreStatuses : List (List ℕ) → Type 0
AreStatuses statuses = AllByRecursion (λ ps. IsTrue (is_status ps)) statuses

-- the first symbols have these levels and statuses: symbols of one level have as many arguments
pub record IsPrecedence (o : Precedence) : Type 0 where
  pub one_length : length o.statuses ≡ length o.levels
  pub below : (f : ℕ) → f < length o.levels → level o f < length o.levels
  pub in_order : AreStatuses o.statuses
  pub one_arity :
      (f g : ℕ) → f < length o.levels → g < length o.levels → level o f ≡ level o g →
      length (slice_index_or o.statuses f []) ≡ length (slice_index_or o.statuses g [])
