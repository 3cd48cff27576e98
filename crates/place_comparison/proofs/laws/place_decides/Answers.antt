use Rattle.place_comparison.proofs.DecidedThere.{decided_there}
use Rattle.place_comparison.proofs.laws.place_decides.Goals as goal

pub returns : goal.returns
returns g c = decided_there (g.O.TermOrder.above c.args.order.now) (g.met.O.TermOrder.laws c.args.order.now)
