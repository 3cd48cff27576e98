use Rattle.std.specs.Prelude.{Contains}
use Rattle.spec_core.specs.WellSorted.{IsWellSorted}
use Rattle.clause_core.specs.ClauseLaws.{OneRelation}
use Rattle.block_steps.proofs.BlocksTaken.{one_taken, only_memory}
use Rattle.block_steps.proofs.whole_blocks.take_steps.Goals as goal

pub want_of_memory-requires : goal.want_of_memory-requires
want_of_memory-requires g c =
    let above = g.O.TermOrder.above c.args.admitted.now.order in
    let spec = c.args.admitted.now.spec in
    let fine : IsWellSorted c.args.admitted.now.spec = rw (← c.admitted.view_is) c.admitted.invariant.0 in
    let one : OneRelation (g.O.TermOrder.above c.args.admitted.now.order) =
    rw (← c.admitted.view_is) c.one_relation.ensures in
    only_memory above spec (Contains c.args.proved.now) c.args.start c.args.steps.now c.loop-step.step-index
    c.step-item.result c.loop-step-test.true c.step-item.is c.loop-step.taken c.loop-step.invariant one fine
    c.requires.defined.0 c.requires.defined.1 c.take.new.self c.in-Err.error c.in-Err.ensures

pub loop-step-preserved : goal.loop-step-preserved
loop-step-preserved g c =
    one_taken (g.O.TermOrder.above c.args.admitted.now.order) c.args.admitted.now.spec (Contains c.args.proved.now)
    c.args.start c.args.steps.now c.loop-step.step-index c.step-item.result c.loop-step-test.true c.step-item.is
    c.loop-step.taken c.loop-step.invariant c.take.new.self c.in-Ok.ensures
