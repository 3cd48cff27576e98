use Rattle.node_names.proofs.SortStems.{sides_pushed}
use Rattle.node_names.proofs.goals.push_sides.Goals as goal

pub loop-equation-preserved : goal.loop-equation-preserved
loop-equation-preserved c =
    sides_pushed c.args.sides.now.items c.loop-equation.sides.items c.push.new.self.items
    c.push-in-loop-equation.new.self.items c.args.equations.now c.loop-equation.equation-index
    c.equation-item.result c.in_ok-copy.field-0 c.in_ok-copy-2.field-0 c.loop-equation-test.true
    c.equation-item.is c.loop-equation.invariant c.in_ok-copy.ensures c.in_ok-copy-2.ensures
    c.in_ok-push.ensures.items c.in_ok-push-2.ensures.items
