use Rattle.std.proofs.Common.{◌≡◌, map, take}
use Rattle.session_core.specs.Value.{number_of}
use Rattle.session_core.proofs.kept_goals.numbers_of.Given as goal

abbrev pub invariant-loop-goal : goal.invariant-loop-goal
invariant-loop-goal l = l.numbers.items ≡ map number_of (take l.goal-index l.goals)
