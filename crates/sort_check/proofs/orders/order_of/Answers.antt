use Rattle.std.proofs.Common.{rules, ◌≡◌, Err}
use Rattle.sort_check.specs.Orders.{OrderStands}
use Rattle.sort_check.specs.OrderTests.{order_tests}
use Rattle.sort_check.proofs.OrdersMade.{path_stands, line_stands, line_tells}
use Rattle.sort_check.proofs.Telling.{answer_err}
use Rattle.sort_check.proofs.orders.order_of.Goals as goal

pub returns-in_err-weights-in-Some : goal.returns-in_err-weights-in-Some
returns-in_err-weights-in-Some c =
    let sig = c.args.sig.now in
    let raw = c.args.raw.now in
    let e = c.in_err-weights-in-Some.field-0.0 in
    let q : c.from_residual-in_err-weights-in-Some.result ≡ Err e = search rules in
    answer_err (order_tests sig raw) (OrderStands raw sig) c.from_residual-in_err-weights-in-Some.result e q
    (line_tells sig c.as_slice-equals.result.now c.as_slice-statuses.result.now raw c.as_slice-equals.ensures
    c.as_slice-statuses.ensures c.in_ok-path.ensures.0 c.in-Some.line c.in-Some.is e
    c.in_err-weights-in-Some.ensures)

pub returns-in-None : goal.returns-in-None
returns-in-None c =
    path_stands c.args.sig.now c.as_slice-equals.result.now c.as_slice-statuses.result.now c.args.raw.now
    c.as_slice-equals.ensures c.as_slice-statuses.ensures c.in_ok-path.ensures.0 c.in_ok-path.path c.in-None.is
    c.in_ok-path.ensures.1

pub returns-in_ok-weights-in-Some : goal.returns-in_ok-weights-in-Some
returns-in_ok-weights-in-Some c =
    line_stands c.args.sig.now c.as_slice-equals.result.now c.as_slice-statuses.result.now c.args.raw.now
    c.as_slice-equals.ensures c.as_slice-statuses.ensures c.in_ok-path.ensures.0 c.in-Some.line c.in-Some.is
    c.in_ok-weights-in-Some.weights c.in_ok-weights-in-Some.ensures.0 c.in_ok-weights-in-Some.ensures.1
