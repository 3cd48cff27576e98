use Rattle.std.proofs.Common.{◌≡◌, ◌∙◌, ap, length, subst, sym}
use Rattle.std.specs.Prelude.{Contains}
use Rattle.replay_check.specs.Kept.{TellLastUses}
use Rattle.replay_check.proofs.TakenSteps.{block_stops, node_there, taken_more}
use Rattle.replay_check.proofs.blocks.take_steps.Goals as goal

pub let_go-requires-clause-there : goal.let_go-requires-clause-there
let_go-requires-clause-there g c =
    node_there (g.O.TermOrder.above c.args.admitted.now.order) c.args.admitted.now.spec
    (Contains c.args.proved.now) c.args.start c.args.steps.now c.loop-number.number
    c.index-steps-number.result c.loop-number-test.true c.index-steps-number.is c.loop-number.taken
    c.loop-number.invariant c.take.new.self c.in-Ok.ensures

pub loop-number-preserved : goal.loop-number-preserved
loop-number-preserved g c =
    let long : length c.as_slice-lasts.result.now ≡ length c.args.steps.now = ap length
    c.as_slice-lasts.ensures.value ∙ c.in_ok-lasts.ensures.long in
    let last : TellLastUses c.args.steps.now c.as_slice-lasts.result.now = subst
    (λ ls. TellLastUses c.args.steps.now ls) (sym c.as_slice-lasts.ensures.value) c.in_ok-lasts.ensures.last in
    taken_more (g.O.TermOrder.above c.args.admitted.now.order) c.args.admitted.now.spec
    (Contains c.args.proved.now) c.args.start c.args.steps.now c.loop-number.number
    c.index-steps-number.result c.loop-number-test.true c.index-steps-number.is c.loop-number.taken
    c.loop-number.invariant c.as_slice-lasts.result.now long last c.take.new.self c.let_go.new.taken
    c.in-Ok.ensures c.let_go.ensures

pub returns-in-Err : goal.returns-in-Err
returns-in-Err g c =
    block_stops (g.O.TermOrder.above c.args.admitted.now.order) c.args.admitted.now.spec
    (Contains c.args.proved.now) c.args.start c.args.steps.now c.loop-number.number
    c.index-steps-number.result c.loop-number-test.true c.index-steps-number.is c.loop-number.taken
    c.loop-number.invariant c.take.new.self c.args.line c.in-Err.error c.stop_at.result c.in-Err.ensures
    c.stop_at.ensures
