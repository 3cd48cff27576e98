use Rattle.plain_search.proofs.OneCandidates.{one_choice}
use Rattle.plain_search.proofs.laws.one_choice.Goals as goal

pub returns : goal.returns
returns g c = one_choice (g.O.TermOrder.above c.args.order.now)
