use Rattle.std.proofs.Common.{◌≡◌, take}
use Rattle.sort_check.specs.Orders.{greatest}
use Rattle.sort_check.specs.Marks.{numbers_of}
use Rattle.sort_check.proofs.orders.greatest.Given as goal

abbrev pub invariant-loop-function : goal.invariant-loop-function
invariant-loop-function l = l.level ≡ greatest (numbers_of (take l.function-index l.functions))
