use Rattle.std.proofs.Common.{◌≡◌, take}
use Rattle.sort_check.proofs.orders.status_of.Given as goal

abbrev pub invariant-loop-number : goal.invariant-loop-number
invariant-loop-number l = l.status ≡ take l.number-index l.numbers
