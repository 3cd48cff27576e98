use Rattle.plain_search.proofs.StandingBlocks.{blocks_stand}
use Rattle.plain_search.proofs.laws.plain_blocks_stand.Goals as goal

pub returns : goal.returns
returns g c = blocks_stand c.tidying_laws.ensures (g.O.TermOrder.above c.args.order.now) c.children_are_sorted.ensures
