use Rattle.std.proofs.Common.{sym, subst}
use Rattle.term_core.specs.References.{terms_of}
use Rattle.kbo_order.specs.Counted.{IsSum}
use Rattle.kbo_order.specs.Weights.{symbol_weight}
use Rattle.kbo_order.proofs.Summing.{of-list}
use Rattle.kbo_order.proofs.totals.+total.Goals as goal

pub total-returns-in-Var : goal.total-returns-in-Var
total-returns-in-Var t c =
    let w = symbol_weight c.args.weights.now in
    subst (λ u. IsSum w c.args.x.0 u c.of_variable.result) (sym c.in-Var.ensures) (c.of_variable.ensures w)

pub total_of_all-returns-in_ok-rest-in-Some : goal.total_of_all-returns-in_ok-rest-in-Some
total_of_all-returns-in_ok-rest-in-Some t c =
    of-list (symbol_weight c.args.weights.now) c.args.x.0 (c.in-Some.ensures (terms_of c.args.list.now))
    c.in_ok-sums-in-Some.sums c.in_ok-rest-in-Some.rest c.plus.result c.in_ok-sums-in-Some.ensures
    c.in_ok-rest-in-Some.ensures c.plus.ensures
