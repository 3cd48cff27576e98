use Rattle.descent.proofs.SortedChildren.{children_sorted}
use Rattle.descent.proofs.laws.children_are_sorted.Goals as goal

pub returns : goal.returns
returns g c = children_sorted (g.O.TermOrder.above c.args.order.now) c.tidying_laws.ensures
