use Rattle.plain_search.proofs.GoalBlocks.{plain_blocks}
use Rattle.plain_search.proofs.laws.plain_blocks.Goals as goal

pub returns : goal.returns
returns g c = plain_blocks c.tidying_laws.ensures.is_tidied (g.O.TermOrder.above c.args.order.now) c.first_steps.ensures
