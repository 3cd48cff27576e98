-- What a function returned that reads the lines on the order of terms, beside the stack of grammar symbols.
use Rattle.std.specs.Prelude.{◌≡◌, ◌==◌, ◌≤◌, ◌⊎◌, ℕ, List, [], ◌∷◌, Some, None, Result, Ok, Err, length}
use Rattle.spec_grammar.specs.declared.keys.Key.TheVariants.{LeftPar, RightPar, Comma}
use Rattle.spec_grammar.specs.Items.{Item}
use Rattle.spec_grammar.specs.Grammar.{Marked, numeral_text, more_numbers_text, AreEquals, AreStatuses, order_text}
use Rattle.spec_grammar.specs.Derives.{clean}
use Rattle.spec_grammar.specs.Limits.{arity_mark}
use Rattle.spec_grammar.specs.Symbols.{Symbol, key, name, more_equal, numeral, more_numbers, order_then, run}
use Rattle.spec_syntax.specs.declared.orders.OrderLines.{OrderLines}
use Rattle.spec_syntax.specs.declared.stop.Stop.{Stop}
use Rattle.spec_syntax.specs.declared.stop.Stop.TheVariants.{Fault, OutOfMemory}

-- an equal line after its first word
abbrev pub equal_symbols : List Symbol
equal_symbols = name None ∷ key Comma ∷ name None ∷ more_equal ∷ []

-- the numbers of a status line, of which there is one at least
abbrev pub number_symbols : List Symbol
number_symbols = numeral (arity_mark 0) ∷ more_numbers 1 ∷ []

abbrev pub AreNumbers : List ℕ → List Marked → List Marked → Type 0
AreNumbers [] text after = ⊥
AreNumbers (i ∷ is) text after =
    text ≡ numeral_text (arity_mark 0) i (more_numbers_text 1 is after)

-- a status line after its first word
abbrev pub status_symbols : List Symbol
status_symbols =
    name None ∷ key LeftPar ∷ numeral (arity_mark 0) ∷ more_numbers 1 ∷ key RightPar ∷ []

-- the lines of a format, of which only the second has any
abbrev pub AreOrderLines : ℕ → OrderLines → List Marked → List Marked → Type 0
AreOrderLines version lines text after =
    ((statuses : List Marked) × (order : List Marked) × AreEquals lines.equals text statuses
    × AreStatuses lines.statuses statuses order × (order ≡ order_text lines.order after))
    × ((version ≡ 2)
    ⊎ ((lines.equals ≡ []) × (lines.statuses ≡ []) × (lines.order ≡ None)))

abbrev pub ReadsOrder : {X : Type 0} → ℕ → (X → OrderLines) → (X → List Item) → List Item
    → Result X Stop → Type 0
ReadsOrder version lines rest items (Ok x) =
    AreOrderLines version (lines x) (clean items) (clean (rest x))
    × ((st : List Symbol) → run (order_then (version == 2) st) items ≡ run st (rest x))
    × (length (rest x) ≤ length items)
ReadsOrder version lines rest items (Err OutOfMemory) = Unit {0}
ReadsOrder version lines rest items (Err (Fault left why)) =
    (st : List Symbol) → run (order_then (version == 2) st) items ≡ Some (left, why)
