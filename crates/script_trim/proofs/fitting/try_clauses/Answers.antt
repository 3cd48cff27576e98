use Rattle.script_trim.proofs.Passing.{others_tried}
use Rattle.script_trim.proofs.fitting.try_clauses.Goals as goal

pub returns : goal.returns
returns g c =
    others_tried (g.O.TermOrder.above c.args.order.now) c.args.spot.now _ _ _ c.new-fits.ensures.items
    c.in_ok-try_nodes.ensures c.in_ok-try_lemmas.ensures
