use Rattle.descent.proofs.HasValues.{one_value}
use Rattle.descent.proofs.laws.values_rank_lower.Goals as goal

pub returns : goal.returns
returns g c = λ spec fine admitted. one_value (g.O.TermOrder.above c.args.order.now) spec fine admitted
    (g.O.TermOrder.rank c.args.order.now) (g.met.O.TermOrder.ranks c.args.order.now)
