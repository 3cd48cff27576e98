use Rattle.routine_proof.proofs.StandingBlocks.{blocks_stand}
use Rattle.routine_proof.proofs.laws.routine_blocks_stand.Goals as goal

pub returns : goal.returns
returns g c =
    blocks_stand (g.O.TermOrder.above c.args.order.now) c.tidying_laws.ensures
    c.children_are_sorted.ensures
