-- The order that the lines of a raw specification stand for.
use Rattle.std.specs.Prelude.{◌≡◌, ℕ, List, [], ◌∷◌, Bool, ◌==◌, Some, None, if◌then◌else◌, max, map, length, position}
use Rattle.std.specs.Prelude.{unwrap_or, slice_index}
use Rattle.std.specs.List.{list_any, range_with_len}
use Rattle.std.specs.Str.{bytes_eq}
use Rattle.spec_core.specs.Sig.{Sig, names_of}
use Rattle.spec_core.specs.Orders.{arities}
use Rattle.spec_core.specs.declared.records.OrderInfo.{OrderInfo}
use Rattle.spec_core.specs.declared.records.OrderInfo.TheVariants.{Path, Weights}
use Rattle.spec_grammar.specs.declared.raw.RawName.{RawName}
use Rattle.spec_grammar.specs.declared.raw.RawEqual.{RawEqual}
use Rattle.spec_grammar.specs.declared.raw.RawStatus.{RawStatus}
use Rattle.spec_grammar.specs.declared.raw.RawWeight.{RawWeight}
use Rattle.spec_grammar.specs.declared.raw.RawOrder.{RawOrder}
use Rattle.spec_grammar.specs.declared.raw.RawSpec.{RawSpec}

-- the number is one of these
abbrev pub is_among : ℕ → List ℕ → Bool
is_among n ns = list_any (λ m. m == n) ns

-- the greatest of the numbers
abbrev pub greatest : List ℕ → ℕ
greatest [] = 0
greatest (n ∷ ns) = max n (greatest ns)

module _ (sig : Sig) where
  -- the number of the symbol with this name; if there is none, one past those of all symbols
  abbrev pub symbol_number : RawName → ℕ
  symbol_number n = unwrap_or (position (bytes_eq n.name) (names_of sig)) (length sig.table)

  abbrev pub symbol_numbers : List RawName → List ℕ
  symbol_numbers names = map symbol_number names

  -- the level of a symbol: the greatest number in the equal line that names it, else its own
  abbrev pub level_in : List RawEqual → ℕ → ℕ
  level_in [] f = f
  level_in (line ∷ lines) f =
      if is_among f (symbol_numbers line.names)
      then greatest (symbol_numbers line.names)
      else level_in lines f

  -- the status of a symbol: the numbers in the status line that names it, else 1, 2, .. to its number of arguments
  abbrev pub status_in : List RawStatus → ℕ → List ℕ
  status_in [] f = range_with_len 1 (slice_index (arities sig) f)
  status_in (line ∷ lines) f =
      if symbol_number line.head == f then line.numbers else status_in lines f

  -- the weight of a symbol: the number that the line gives it, else 1
  abbrev pub weight_in : List RawWeight → ℕ → ℕ
  weight_in [] f = 1
  weight_in (w ∷ ws) f = if symbol_number w.name == f then w.weight else weight_in ws f

  -- the numbers of all symbols
  abbrev pub all_numbers : List ℕ
  all_numbers = range_with_len 0 (length sig.table)

-- each symbol has its level and its status if there is no order line, and else its weight
abbrev pub OrderStands : RawSpec → Sig → OrderInfo → Type 0
OrderStands raw sig (Path levels statuses) =
    (raw.order ≡ None)
    × (levels ≡ map (level_in sig raw.equals) (all_numbers sig))
    × (statuses ≡ map (status_in sig raw.statuses) (all_numbers sig))
OrderStands raw sig (Weights weights) =
    (line : RawOrder) × (raw.order ≡ Some line)
    × (weights ≡ map (weight_in sig line.weights) (all_numbers sig))
