use Rattle.cond_rewrite.proofs.Blocks.{rows_in_blocks}
use Rattle.cond_rewrite.proofs.laws.rows_in_blocks.Goals as goal

pub returns : goal.returns
returns g c = rows_in_blocks (g.O.TermOrder.above c.args._order.now)
