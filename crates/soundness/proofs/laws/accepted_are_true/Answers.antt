use Rattle.soundness.proofs.TrueReports.{accepted_true}
use Rattle.soundness.proofs.laws.accepted_are_true.Goals as goal

pub returns : goal.returns
returns g k =
    let above = g.O.TermOrder.above k.args.order.now in
    let rank = g.O.TermOrder.rank k.args.order.now in
    let laws = g.met.O.TermOrder.ranks k.args.order.now in
    accepted_true above rank laws k.values_rank_lower.ensures k.steps_descend.ensures k.children_are_sorted.ensures
