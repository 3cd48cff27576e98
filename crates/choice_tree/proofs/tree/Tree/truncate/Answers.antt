use Rattle.choice_tree.proofs.KeptNodes.{tree_taken}
use Rattle.choice_tree.proofs.tree.Tree.truncate.Goals as goal

pub invariant_of-self : goal.invariant_of-self
invariant_of-self c =
    tree_taken c.self.inside.spec.now c.self.inside.nodes.items c.truncate.new.self.items
    c.args.count c.truncate.ensures.items c.self.invariant
