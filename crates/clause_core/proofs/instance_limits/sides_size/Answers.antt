use Rattle.std.proofs.Common.{map, arith}
use Rattle.clause_core.specs.ClauseInstances.{equation_instance}
use Rattle.clause_core.proofs.Sides.{sizes_next}
use Rattle.clause_core.proofs.InstanceSizes.{instance_at, instance_below}
use Rattle.clause_core.proofs.instance_limits.sides_size.Goals as goal

pub loop-equation-preserved : goal.loop-equation-preserved
loop-equation-preserved c =
    let entries = c.args.theta.now.terms in
    let es = c.args.equations.now in
    let i = c.loop-equation.equation-index in
    let e = c.equation-item.result in
    sizes_next (map (equation_instance entries) es) i (equation_instance entries e) c.args.cap
    c.loop-equation.size c.instance_size-size.result c.instance_size-size-in-loop-equation.result
    (instance_below entries es i c.loop-equation-test.true)
    (instance_at entries es i e c.loop-equation-test.true c.equation-item.is) c.loop-equation.invariant
    (omega (arith, c.instance_size-size.ensures)) (omega (arith, c.instance_size-size-in-loop-equation.ensures))
