use Rattle.std.proofs.Common.{take}
use Rattle.std.specs.Prelude.{Contains}
use Rattle.block_steps.specs.Taken.{AreTaken}
use Rattle.freer_search.proofs.checking.all_taken.Given as goal

abbrev pub invariant-loop-step : goal.invariant-loop-step
invariant-loop-step g l =
    AreTaken (g.O.TermOrder.above l.admitted.order) l.admitted.spec (Contains l.lemmas) l.fn.start
    (take l.step-index l.steps) l.taken
