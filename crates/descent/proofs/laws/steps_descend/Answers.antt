use Rattle.descent.proofs.AllDescend.{all_descend}
use Rattle.descent.proofs.laws.steps_descend.Goals as goal

pub returns : goal.returns
returns g c = all_descend (g.O.TermOrder.above c.args.order.now) (g.O.TermOrder.rank c.args.order.now)
    (g.met.O.TermOrder.ranks c.args.order.now) c.values_rank_lower.ensures
