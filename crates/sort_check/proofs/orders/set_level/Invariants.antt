use Rattle.std.proofs.Common.{◌≡◌, ℕ, take, get_or}
use Rattle.std.specs.Prelude.{if◌then◌else◌}
use Rattle.sort_check.specs.Orders.{is_among}
use Rattle.sort_check.specs.Marks.{numbers_of}
use Rattle.sort_check.proofs.orders.set_level.Given as goal

abbrev pub invariant-loop-function : goal.invariant-loop-function
invariant-loop-function l =
    (f : ℕ) → get_or l.levels f 0
    ≡ (if is_among f (numbers_of (take l.function-index l.functions)) then l.level else get_or l.fn.levels f 0)
