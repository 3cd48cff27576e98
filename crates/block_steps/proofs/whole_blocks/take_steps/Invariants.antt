use Rattle.std.proofs.Common.{take}
use Rattle.std.specs.Prelude.{Contains}
use Rattle.block_steps.specs.Taken.{AreTaken}
use Rattle.block_steps.proofs.whole_blocks.take_steps.Given as goal

abbrev pub invariant-loop-step : goal.invariant-loop-step
invariant-loop-step g l =
    AreTaken (g.O.TermOrder.above l.admitted.order) l.admitted.spec (Contains l.proved) l.fn.start
    (take l.step-index l.steps) l.taken
