use Rattle.proof_search.proofs.NeverRises.{never_rises}
use Rattle.proof_search.proofs.laws.never_rises.Goals as goal

pub returns : goal.returns
returns g c =
    never_rises (g.O.TermOrder.above c.args.order.now) (g.O.TermOrder.rank c.args.order.now)
    (g.met.O.TermOrder.ranks c.args.order.now) (g.met.O.TermOrder.laws c.args.order.now)
