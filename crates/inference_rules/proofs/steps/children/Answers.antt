use Rattle.inference_rules.proofs.NodeLists.{clause_at}
use Rattle.inference_rules.proofs.TakenSteps.{answered_at, nodes_made, goes_on}
use Rattle.inference_rules.proofs.steps.children.Goals as goal

pub taken-requires-clause-here : goal.taken-requires-clause-here
taken-requires-clause-here g c = c.requires.nodes c.args.node _
    (clause_at c.args.nodes.now c.args.node c.index-nodes-node.result c.requires.in_range)

pub returns-clause-answered : goal.returns-clause-answered
returns-clause-answered g c =
    answered_at (g.O.TermOrder.above c.args.order.now) c.args.spec.now c.args.proved.now c.args.nodes.now
    c.args.node c.args.step.now _ (clause_at c.args.nodes.now c.args.node c.index-nodes-node.result
    c.requires.in_range) c.taken.result c.counted.result c.counted.ensures c.taken.ensures

pub returns-clause-nodes : goal.returns-clause-nodes
returns-clause-nodes g c =
    let at = clause_at c.args.nodes.now c.args.node c.index-nodes-node.result c.requires.in_range in
    nodes_made (g.O.TermOrder.above c.args.order.now) c.args.spec.now c.args.proved.now c.args.nodes.now
    c.args.node c.args.step.now c.children_are_sorted.ensures c.requires.fine c.requires.nodes _
    (c.requires.nodes c.args.node _ at) c.counted.result
    (answered_at (g.O.TermOrder.above c.args.order.now) c.args.spec.now c.args.proved.now c.args.nodes.now
    c.args.node c.args.step.now _ at c.taken.result c.counted.result c.counted.ensures c.taken.ensures _ at)

pub returns-clause-descends : goal.returns-clause-descends
returns-clause-descends g c =
    let at = clause_at c.args.nodes.now c.args.node c.index-nodes-node.result c.requires.in_range in
    goes_on (g.O.TermOrder.above c.args.order.now) c.args.spec.now c.args.proved.now c.args.nodes.now
    c.args.node c.args.step.now (g.O.TermOrder.rank c.args.order.now) c.steps_descend.ensures
    c.requires.fine c.requires.nodes c.counted.result
    (answered_at (g.O.TermOrder.above c.args.order.now) c.args.spec.now c.args.proved.now c.args.nodes.now
    c.args.node c.args.step.now _ at c.taken.result c.counted.result c.counted.ensures c.taken.ensures)
