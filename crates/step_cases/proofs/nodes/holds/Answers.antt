use Rattle.std.proofs.Common.{sym, subst}
use Rattle.inference_rules.specs.Answers.{clauses_of}
use Rattle.inference_rules.specs.Nodes.{AreNodes}
use Rattle.step_cases.proofs.nodes.holds.Goals as goal

pub children-made-requires-clause-nodes : goal.children-made-requires-clause-nodes
children-made-requires-clause-nodes c = subst (λ xs. AreNodes c.args.spec.now.sig (clauses_of xs))
    (sym c.deref-2.ensures.value) c.in_ok-nodes.ensures
