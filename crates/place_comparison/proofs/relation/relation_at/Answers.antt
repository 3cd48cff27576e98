use Rattle.std.proofs.Common.{sym, subst}
use Rattle.place_comparison.specs.AtPlaces.{TermsCompare}
use Rattle.place_comparison.proofs.relation.relation_at.Goals as goal

pub returns : goal.returns
returns g k = λ c place at e. (k.place_decides.ensures c place at k.args.new.now k.compared.result).1
    (subst (λ t. TermsCompare (g.O.TermOrder.above k.args.order.now) t k.args.new.now k.compared.result) (sym e)
    k.compared.ensures)
