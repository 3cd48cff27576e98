use Rattle.test_sets.proofs.CoverSays.{cover_says}
use Rattle.test_sets.proofs.laws.cover_is_its_row.Goals as goal

pub returns : goal.returns
returns g c = cover_says (g.O.TermOrder.above c.args.order.now)
