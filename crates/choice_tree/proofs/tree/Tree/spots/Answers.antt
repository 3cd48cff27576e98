use Rattle.std.proofs.Common.{◌<◌, get_or, length, subst, sym, arith}
use Rattle.descent.specs.SortedChildren.{IsNode}
use Rattle.inference_rules.specs.declared.nodes.Node.{Node}
use Rattle.inference_rules.specs.Answers.{clauses_of}
use Rattle.inference_rules.specs.Nodes.{AreNodes}
use Rattle.choice_tree.proofs.KeptNodes.{node_read}
use Rattle.choice_tree.proofs.tree.Tree.spots.Goals as goal

pub of-requires : goal.of-requires
of-requires c =
    let sig = c.self.inside.spec.now.sig in
    let ns = c.as_slice-nodes.result.now in
    let nodes =
    subst (λ xs. AreNodes sig (clauses_of xs)) (sym c.as_slice-nodes.ensures.value)
    c.self.invariant.nodes in
    let in_range : c.args.node < length ns = omega (arith, c.if-node-nodes.false) in
    let here = get_or ns c.args.node c.index-nodes-node.result in
    let node =
    subst (λ (n : Node). IsNode sig n.clause) c.index-nodes-node.is
    (node_read sig ns c.args.node c.index-nodes-node.result nodes in_range c.index-nodes-node.is) in
    c.places_are_there.ensures.numbers_fit sig here.clause c.self.invariant.fine.arities node.sorted
    node.within
