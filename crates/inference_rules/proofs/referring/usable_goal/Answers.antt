use Rattle.std.proofs.Common.{arith}
use Rattle.inference_rules.proofs.NamedGoals.{usable, none_usable}
use Rattle.inference_rules.proofs.referring.usable_goal.Goals as goal

pub returns-in-Some : goal.returns-in-Some
returns-in-Some c =
    usable c.args.spec.now c.args.proved.now c.args.name.now c.loop-number.number-index 0 c.in-Some.goal.now
    c.loop-number-test.true
    c.in-Some.ensures.0 c.in-Some.ensures.1

pub returns : goal.returns
returns c = none_usable c.args.spec.now c.args.proved.now c.args.name.now 0
    (λ k lt. c.loop-number.invariant k (omega arith))
