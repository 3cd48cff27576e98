use Rattle.std.proofs.Common.{◌∙◌, arith}
use Rattle.proof_words.proofs.Items.{each_left, each_drawn}
use Rattle.open_goals.specs.Words.{near_events}
use Rattle.open_goals.proofs.drawing.draw_nears.Goals as goal

pub loop-near-preserved : goal.loop-near-preserved
loop-near-preserved c =
    let naming = c.args.naming.now in
    let loop = c.loop-near in
    let item = c.near-item in
    each_left (near_events c.args.goals.now naming.sig.now naming.names.now) c.args.nears.now
    loop.near-index item.result c.loop-near-test.true item.is loop.page c.draw_near.new.page
    c.in_ok-draw_near.ensures
    ∙ loop.invariant

pub returns : goal.returns
returns c =
    let naming = c.args.naming.now in
    each_drawn (near_events c.args.goals.now naming.sig.now naming.names.now) c.args.nears.now
    c.loop-near.near-index (omega arith) c.loop-near.page c.args.page.now _ c.loop-near.invariant
