use Rattle.std.proofs.Common.{◌∙◌, arith}
use Rattle.proof_words.proofs.Items.{each_left, each_drawn}
use Rattle.open_goals.specs.Words.{start_events}
use Rattle.open_goals.proofs.drawing.draw_each.Goals as goal

pub loop-start-preserved : goal.loop-start-preserved
loop-start-preserved c =
    let loop = c.loop-start in
    let item = c.start-item in
    each_left (start_events c.args.spec.now c.args.names.now) c.args.starts.now loop.start-index item.result
    c.loop-start-test.true item.is loop.page c.draw_start.new.page c.in_ok-draw_start.ensures
    ∙ loop.invariant

pub returns : goal.returns
returns c =
    each_drawn (start_events c.args.spec.now c.args.names.now) c.args.starts.now c.loop-start.start-index
    (omega arith) c.loop-start.page c.args.page.now _ c.loop-start.invariant
