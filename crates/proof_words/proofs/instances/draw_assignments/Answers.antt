use Rattle.std.proofs.Common.{◌∙◌, codes, arith}
use Rattle.proof_words.specs.InstanceEvents.{assignment_events}
use Rattle.proof_words.proofs.Items.{separated_left, separated_drawn}
use Rattle.proof_words.proofs.instances.draw_assignments.Goals as goal

pub loop-number-preserved : goal.loop-number-preserved
loop-number-preserved c =
    let naming = c.args.naming.now in
    let loop = c.loop-number in
    let item = c.index-terms-number in
    separated_left (codes ", ")
    (assignment_events naming.sig.now naming.names.now c.args.referred.now)
    c.args.terms.now loop.number item.result c.loop-number-test.true item.is
    loop.page c.draw_separation.new.page c.draw_assignment.new.page
    c.in_ok-draw_separation.ensures c.in_ok-draw_assignment.ensures
    ∙ loop.invariant

pub returns : goal.returns
returns c =
    let naming = c.args.naming.now in
    separated_drawn (codes ", ")
    (assignment_events naming.sig.now naming.names.now c.args.referred.now)
    c.args.terms.now c.loop-number.number (omega arith)
    c.loop-number.page c.args.page.now _ c.loop-number.invariant
