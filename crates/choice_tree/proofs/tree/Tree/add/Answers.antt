use Rattle.std.proofs.Common.{sym, subst}
use Rattle.inference_rules.specs.Nodes.{AreNodes, clauses_made}
use Rattle.choice_tree.proofs.KeptNodes.{tree_joined}
use Rattle.choice_tree.proofs.tree.Tree.add.Goals as goal

pub invariant_of-self-2 : goal.invariant_of-self-2
invariant_of-self-2 c =
    tree_joined c.self.inside.spec.now c.self.inside.nodes.items c.in_ok-nodes.nodes.items
    c.append.new.self.items c.args.made c.in_ok-append.ensures.items c.in_ok-nodes.ensures
    (subst (λ sig. AreNodes sig (clauses_made c.args.made)) (sym c.self.view_is) c.requires)
    c.self.invariant
