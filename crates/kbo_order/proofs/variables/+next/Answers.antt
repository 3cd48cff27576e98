use Rattle.term_core.specs.References.{terms_of}
use Rattle.kbo_order.proofs.NextVariables.{of-application, in-first, in-others-as}
use Rattle.kbo_order.proofs.variables.+next.Goals as goal

pub next_variable-returns-in-App : goal.next_variable-returns-in-App
next_variable-returns-in-App t c =
    of-application c.args.from _ c.next_in_all.result c.in-App.ensures c.next_in_all.ensures

pub next_in_all-returns-in-Some-None : goal.next_in_all-returns-in-Some-None
next_in_all-returns-in-Some-None t c =
    in-first (c.in_ok-first.ensures (terms_of c.args.list.now)) c.args.from c.in-Some-None.x
    c.in-Some-None.ensures c.in-Some-None.ensures'

pub next_in_all-returns-in-None-default : goal.next_in_all-returns-in-None-default
next_in_all-returns-in-None-default t c =
    in-others-as (c.in_ok-first.ensures (terms_of c.args.list.now)) c.args.from c.next_variable.result
    c.next_in_all.result c.in-None-default.is-0 c.next_variable.ensures c.next_in_all.ensures
