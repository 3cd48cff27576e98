use Rattle.std.specs.Prelude.{Contains}
use Rattle.replay_check.specs.Taken.{AreTaken}
use Rattle.replay_check.proofs.blocks.take_steps.Given as goal

abbrev pub invariant-loop-number : goal.invariant-loop-number
invariant-loop-number g l = AreTaken (g.O.TermOrder.above l.admitted.order) l.admitted.spec (Contains l.proved)
    l.fn.start l.steps l.number l.taken
