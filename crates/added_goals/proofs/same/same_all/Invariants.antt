use Rattle.std.proofs.Common.{◌≡◌, take}
use Rattle.added_goals.proofs.same.same_all.Given as goal

abbrev pub invariant-loop-number : goal.invariant-loop-number
invariant-loop-number g l = take l.number l.items ≡ take l.number l.others
