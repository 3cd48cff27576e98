use Rattle.clause_core.proofs.RuleUses.{rules_rank_lower}
use Rattle.clause_core.proofs.laws.rules_rank_lower.Goals as goal

pub returns : goal.returns
returns g c = rules_rank_lower (g.O.TermOrder.above c.args.order.now) (g.O.TermOrder.rank c.args.order.now)
    (g.met.O.TermOrder.ranks c.args.order.now)
