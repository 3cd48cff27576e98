use Rattle.std.proofs.Common.{max, map, ap, ◌∙◌, arith}
use Rattle.clause_core.specs.ClauseInstances.{equation_instance}
use Rattle.clause_core.proofs.Sides.{depths_next}
use Rattle.clause_core.proofs.InstanceSizes.{instance_at, instance_below}
use Rattle.clause_core.proofs.instance_limits.sides_depth.Goals as goal

pub loop-equation-preserved : goal.loop-equation-preserved
loop-equation-preserved c =
    let entries = c.args.theta.now.terms in
    let es = c.args.equations.now in
    let i = c.loop-equation.equation-index in
    let e = c.equation-item.result in
    c.max-depth.ensures
    ∙ ap (λ n. max n c.instance_depth-in-loop-equation.result) c.max.ensures
    ∙ depths_next (map (equation_instance entries) es) i (equation_instance entries e) c.args.cap
    c.loop-equation.depth c.instance_depth.result c.instance_depth-in-loop-equation.result
    (instance_below entries es i c.loop-equation-test.true)
    (instance_at entries es i e c.loop-equation-test.true c.equation-item.is) c.loop-equation.invariant
    (omega (arith, c.instance_depth.ensures)) (omega (arith, c.instance_depth-in-loop-equation.ensures))
