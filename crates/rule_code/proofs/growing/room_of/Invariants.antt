use Rattle.std.proofs.Common.{◌≤◌, length}
use Rattle.rule_code.proofs.growing.room_of.Given as goal

abbrev pub invariant-loop-node : goal.invariant-loop-node
invariant-loop-node l = length l.nodes ≤ l.room
