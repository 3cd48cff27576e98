use Rattle.clause_core.proofs.OneRelation.{one_relation}
use Rattle.clause_core.proofs.laws.one_relation.Goals as goal

pub returns : goal.returns
returns g c = one_relation (g.O.TermOrder.above c.args.order.now)
