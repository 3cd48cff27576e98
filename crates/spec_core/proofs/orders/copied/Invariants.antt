use Rattle.std.proofs.Common.{◌≡◌, take}
use Rattle.spec_core.proofs.orders.copied.Given as goal

abbrev pub invariant-loop-status : goal.invariant-loop-status
invariant-loop-status l = l.made ≡ take l.status-index l.statuses
