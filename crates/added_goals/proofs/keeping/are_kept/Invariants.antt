use Rattle.std.specs.Prelude.{◌↔◌, drop}
use Rattle.added_goals.specs.Additions.{AreKept}
use Rattle.added_goals.proofs.keeping.are_kept.Given as goal

abbrev pub invariant-loop-goal : goal.invariant-loop-goal
invariant-loop-goal l = AreKept l.awaited (drop l.goal-index l.new) ↔ AreKept l.initial.awaited l.new
