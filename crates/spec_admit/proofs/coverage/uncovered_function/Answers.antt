use Rattle.std.proofs.Common.{arith}
use Rattle.spec_admit.specs.Tests.{FunctionIsCovered}
use Rattle.spec_admit.specs.Parts.{AreNamedFor}
use Rattle.spec_admit.proofs.CoveredFunctions.{covering, covered_more, first_uncovered}
use Rattle.spec_admit.proofs.coverage.uncovered_function.Goals as goal

pub returns-in-Some : goal.returns-in-Some
returns-in-Some c =
    let named : AreNamedFor c.args.spec.now c.loop-number.number c.in-Some.values = rw c.in-Some.is
    at c.in_ok-values.ensures in
    first_uncovered c.args.spec.now c.loop-number.number c.in-Some.values
    (omega (arith, c.constructors-number.ensures.count)) (omega arith) c.loop-number.invariant named

pub returns : goal.returns
returns c = covering c.args.spec.now (λ f above within. c.loop-number.invariant f above (omega arith))

pub loop-number-preserved : goal.loop-number-preserved
loop-number-preserved c =
    let here : FunctionIsCovered c.args.spec.now c.loop-number.number = rw c.in_default.is at c.in_ok-values.ensures in
    covered_more c.args.spec.now c.loop-number.number c.loop-number.invariant here
