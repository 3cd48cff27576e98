use Rattle.std.specs.Prelude.{Contains}
use Rattle.block_steps.proofs.BlocksTaken.{one_taken}
use Rattle.freer_search.proofs.checking.all_taken.Goals as goal

pub loop-step-preserved : goal.loop-step-preserved
loop-step-preserved g c =
    one_taken (g.O.TermOrder.above c.args.admitted.now.order) c.args.admitted.now.spec (Contains c.args.lemmas.now)
    c.args.start c.args.steps.now c.loop-step.step-index c.step-item.result c.loop-step-test.true c.step-item.is
    c.loop-step.taken c.loop-step.invariant c.take.new.self c.in-Ok.ensures
