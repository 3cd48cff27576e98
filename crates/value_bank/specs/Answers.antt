-- The term at a place, of at most 10,000 symbols.
use Rattle.std.specs.Prelude.{ℕ, ◌<◌, ◌≤◌, List, Option, Some, None, Result, Ok, Err, length}
use Rattle.std.specs.Global.{Vec}
use Rattle.term_core.specs.Tree.{Tree, tree_size}
use Rattle.value_bank.specs.Cells.{Cell, IsTerm}
use Rattle.value_bank.specs.Preorders.{IsOrder}
use Rattle.value_bank.specs.declared.answers.TermError.{TermError}
use Rattle.value_bank.specs.declared.answers.TermError.TheVariants.{Large, OutOfMemory}

-- the term at the place has more than 10,000 symbols
abbrev pub IsLarge : List Cell → ℕ → Type 0
IsLarge cells place = (t : Tree) × IsTerm cells place t × (10000 < tree_size t)

-- the term at the place, of at most 10,000 symbols; or it has more
abbrev pub IsAnswer : List Cell → ℕ → Result Tree TermError → Type 0
IsAnswer cells place (Ok t) = IsTerm cells place t × (tree_size t ≤ 10000)
IsAnswer cells place (Err Large) = IsLarge cells place
IsAnswer cells place (Err OutOfMemory) = Unit {0}

-- the places that make the term at the place, of which there are at most 10,000; or there are more
abbrev pub IsOrderOr : List Cell → ℕ → Option (Vec ℕ) → Type 0
IsOrderOr cells place (Some order) = IsOrder cells place order.items × (length order.items ≤ 10000)
IsOrderOr cells place None = IsLarge cells place
