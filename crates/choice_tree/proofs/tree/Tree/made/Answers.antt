use Rattle.std.proofs.Common.{subst, sym}
use Rattle.inference_rules.specs.Answers.{clauses_of}
use Rattle.inference_rules.specs.Nodes.{AreNodes, clauses_made}
use Rattle.choice_tree.proofs.tree.Tree.made.Goals as goal

pub children-requires-clause-nodes : goal.children-requires-clause-nodes
children-requires-clause-nodes g c =
    subst (λ xs. AreNodes c.self.inside.spec.now.sig (clauses_of xs))
    (sym c.as_slice-nodes.ensures.value) c.self.invariant.nodes

pub returns-in-Ok : goal.returns-in-Ok
returns-in-Ok g c =
    subst (λ sig. AreNodes sig (clauses_made c.in-Ok.made)) c.self.view_is c.in-Ok.ensures.nodes
