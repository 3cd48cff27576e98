use Rattle.std.proofs.Common.{◌≡◌, map, take}
use Rattle.std.specs.List.{range_with_len}
use Rattle.spec_core.specs.Orders.{arities}
use Rattle.spec_core.proofs.orders.order_by_number.Given as goal

abbrev pub invariant-loop-number : goal.invariant-loop-number
invariant-loop-number l =
    (l.levels ≡ range_with_len 0 l.number)
    × (l.statuses ≡ map (range_with_len 1) (take l.number (arities l.sig)))
