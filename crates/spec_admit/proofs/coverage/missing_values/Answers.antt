use Rattle.spec_admit.proofs.CoveredFunctions.{covered, named_for}
use Rattle.spec_admit.proofs.coverage.missing_values.Goals as goal

pub returns-in-Covered : goal.returns-in-Covered
returns-in-Covered c =
    let h = rw (c.in-Covered.is, c.as_slice-sorts.ensures) at c.in_ok-covers.ensures in
    covered c.args.spec.now c.args.fun.0 c.info.result.now c.info.ensures c.deref.result.now
    (rw c.deref.ensures.value c.in_ok-rows.ensures.matched) h

pub returns : goal.returns
returns c =
    let h = rw (c.in-Missing.is, c.as_slice-sorts.ensures) at c.in_ok-covers.ensures in
    named_for c.args.spec.now c.args.fun.0 c.info.result.now c.info.ensures c.deref.result.now
    (rw c.deref.ensures.value c.in_ok-rows.ensures.matched) c.in-Missing.values
    (rw c.deref.ensures.value c.in_ok-rows.ensures.are) h.0 h.1
