use Rattle.std.proofs.Common.{◌≡◌, ◌++◌, take}
use Rattle.std.specs.List.{flat_map}
use Rattle.spec_printing.specs.Printed.{goal_line}
use Rattle.spec_printing.proofs.printing.append_goals.Given as goal

abbrev pub invariant-loop-goal : goal.invariant-loop-goal
invariant-loop-goal l = l.text.items ≡ l.fn.text.items ++ flat_map goal_line (take l.goal-index l.goals)
