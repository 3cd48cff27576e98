use Rattle.script_trim.proofs.Passing.{own_tried}
use Rattle.script_trim.proofs.fitting.try_equations.Goals as goal

pub returns : goal.returns
returns g c =
    own_tried (g.O.TermOrder.above c.args.order.now) c.args.spot.now _ _ _ _ c.new-fits.ensures.items
    c.in_ok-try_trivials.ensures c.in_ok-try_matches.ensures c.in_ok-try_absurds.ensures
