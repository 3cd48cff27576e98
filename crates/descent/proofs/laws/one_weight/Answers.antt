use Rattle.descent.proofs.SideRanks.{one_weight}
use Rattle.descent.proofs.laws.one_weight.Goals as goal

pub returns : goal.returns
returns g c = one_weight (g.O.TermOrder.above c.args.order.now) (g.O.TermOrder.rank c.args.order.now)
    (g.met.O.TermOrder.ranks c.args.order.now)
