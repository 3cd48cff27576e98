use Rattle.std.proofs.Common.{◌∙◌, arith}
use Rattle.proof_words.proofs.Items.{each_left, each_drawn}
use Rattle.open_goals.specs.Words.{stop_events}
use Rattle.open_goals.proofs.drawing.draw_stops.Goals as goal

pub loop-stop-preserved : goal.loop-stop-preserved
loop-stop-preserved c =
    let loop = c.loop-stop in
    let item = c.stop-item in
    each_left (stop_events c.args.spec.now) c.args.stops.now loop.stop-index item.result
    c.loop-stop-test.true item.is loop.page c.draw_stop.new.page c.in_ok-draw_stop.ensures
    ∙ loop.invariant

pub returns : goal.returns
returns c =
    each_drawn (stop_events c.args.spec.now) c.args.stops.now c.loop-stop.stop-index
    (omega arith) c.loop-stop.page c.args.page.now _ c.loop-stop.invariant
