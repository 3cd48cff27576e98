use Rattle.sort_check.proofs.Elaborates.{spec_made}
use Rattle.sort_check.proofs.elaborating.spec_of.Goals as goal

pub returns : goal.returns
returns c =
    spec_made c.args.raw.now c.in_ok-sig.sig c.in_ok-order.order c.rules_of_one-most.result
    c.rules_of_one-most.ensures c.as_slice.result.now c.as_slice-2.result.now c.in_ok-rules.rules
    c.in_ok-goals.goals c.as_slice.ensures c.as_slice-2.ensures c.in_ok-sig.ensures
    c.in_ok-order.ensures c.in_ok-rules.ensures c.in_ok-goals.ensures
