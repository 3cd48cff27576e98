use Rattle.acceptance.specs.Claims.{ProvedBefore}
use Rattle.acceptance.proofs.WholeBlocks.{whole_block}
use Rattle.acceptance.proofs.laws.blocks_are_whole.Goals as goal

pub returns : goal.returns
returns g k = λ spec before start steps made makes finished. whole_block (g.O.TermOrder.above k.args.order.now)
    spec (ProvedBefore spec before) start steps made makes finished
