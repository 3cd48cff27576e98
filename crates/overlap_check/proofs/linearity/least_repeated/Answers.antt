use Rattle.std.proofs.Common.{arith, below_more}
use Rattle.overlap_check.proofs.Counting.{not_twice, linear_below}
use Rattle.overlap_check.proofs.linearity.least_repeated.Goals as goal

pub loop-number-preserved : goal.loop-number-preserved
loop-number-preserved c = below_more _ _ c.loop-number.invariant
    (not_twice c.loop-number.number c.args.term.now c.times.result c.times.ensures c.in_default.not-Twice)

pub returns : goal.returns
returns c = linear_below c.args.term.now c.requires.0 c.requires.1
    (λ n h. c.loop-number.invariant n (omega (arith, c.requires.2)))
