-- Levels and statuses that an ordering is made with.
use Rattle.std.specs.Prelude.{Option, Some, None}
use Rattle.term_core.specs.Precedence.{Precedence, by_number}
use Rattle.path_order.specs.declared.path.Lists.{Lists}

-- what the lists say; if there are none, symbols are ordered by number
abbrev pub of_lists : Option Lists → Precedence
of_lists None = by_number
of_lists (Some lists) = record { levels = lists.levels; statuses = lists.statuses }
