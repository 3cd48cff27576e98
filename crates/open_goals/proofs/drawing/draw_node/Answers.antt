use Rattle.std.proofs.lemmas.Result.{on_ok_weaker}
use Rattle.page_core.specs.Events.{within}
use Rattle.page_core.specs.declared.parts.Part.TheVariants.{Step}
use Rattle.proof_words.proofs.Joined.{joined}
use Rattle.open_goals.specs.Words.{cause_events, place_events}
use Rattle.open_goals.proofs.Enclosed.{enclosed}
use Rattle.open_goals.proofs.drawing.draw_node.Goals as goal

pub returns : goal.returns
returns c =
    let sig = c.args.naming.now.sig.now in
    let names = c.args.naming.now.names.now in
    let stuck = c.args.stop.now.stuck in
    let cause = cause_events sig names stuck.cause c.args.stop.now.next in
    let p = c.draw_place.new.page in
    on_ok_weaker c.end.result
    (λ last. joined c.args.page.now p c.end.new.self (place_events sig names stuck.clause) (within Step cause)
    c.in_ok-draw_place.ensures
    (enclosed Step p c.begin.new.self c.draw_cause.new.page c.end.new.self cause c.in_ok-begin.ensures
    c.in_ok-draw_cause.ensures last))
    c.end.ensures
