use Rattle.descent.proofs.TidiedWeights.{keeps_weight}
use Rattle.descent.proofs.laws.tidying_keeps_weight.Goals as goal

pub returns : goal.returns
returns g c = keeps_weight (g.O.TermOrder.rank c.args.order.now)
