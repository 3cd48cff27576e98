use Rattle.std.proofs.Common.{arith}
use Rattle.std.specs.Prelude.{drop}
use Rattle.std.proofs.lemmas.List.{drop_all}
use Rattle.added_goals.proofs.KeptGoals.{decided_at_end}
use Rattle.added_goals.proofs.keeping.are_kept.Goals as goal

pub returns : goal.returns
returns c =
    decided_at_end c.loop-goal.awaited.now (drop c.loop-goal.goal-index c.args.new.now) c.args.old.now c.args.new.now
    (drop_all c.loop-goal.goal-index c.args.new.now (omega (arith, c.loop-goal-test.false)))
    c.loop-goal.invariant c.is_empty.result c.is_empty.ensures
