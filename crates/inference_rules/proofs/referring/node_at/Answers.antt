use Rattle.inference_rules.proofs.MadeNodes.{node_there, no_node}
use Rattle.inference_rules.proofs.referring.node_at.Goals as goal

pub returns-in-Some : goal.returns-in-Some
returns-in-Some c = node_there c.args.nodes.now c.args.number c.in-Some.node.now c.in-Some.ensures.lookup.3.0
    c.in-Some.ensures.lookup.1

pub returns-in-None : goal.returns-in-None
returns-in-None c = no_node c.args.nodes.now c.args.number c.in-None.ensures.lookup.3
