use Rattle.std.proofs.Common.{arith}
use Rattle.clause_core.proofs.Sides.{sizes_next}
use Rattle.place_comparison.proofs.within.size.Goals as goal

pub loop-equation-preserved : goal.loop-equation-preserved
loop-equation-preserved c =
    sizes_next c.args.equations.now c.loop-equation.equation-index c.equation-item.result c.args.cap
    c.loop-equation.size c.size-size.result c.size-size-in-loop-equation.result c.loop-equation-test.true
    c.equation-item.is c.loop-equation.invariant
    (omega (arith, c.size-size.ensures)) (omega (arith, c.size-size-in-loop-equation.ensures))
