use Rattle.term_core.specs.References.{terms_of}
use Rattle.term_order.specs.Operands.{meaning}
use Rattle.kbo_order.specs.Weights.{symbol_weight}
use Rattle.kbo_order.proofs.Standings.{same-told}
use Rattle.kbo_order.proofs.compare.above_for.Goals as goal

pub returns-in-Same : goal.returns-in-Same
returns-in-Same c =
    let values = terms_of c.args.list.now in
    same-told (symbol_weight c.args.weights.now) c.args.x.0 (meaning values c.args.t) (meaning values c.args.s)
    c.in-Some.pair.standing c.in-Same.is c.in-Some.ensures.2
