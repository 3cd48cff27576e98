use Rattle.std.proofs.Common.{sym, subst}
use Rattle.inference_rules.specs.Answers.{clauses_of}
use Rattle.inference_rules.specs.Nodes.{AreNodes}
use Rattle.step_cases.proofs.ManyNodes.{with_node}
use Rattle.step_cases.proofs.nodes.nodes_of.Goals as goal

pub loop-preserved : goal.loop-preserved
loop-preserved c = subst (λ xs. AreNodes c.args.spec.now.sig (clauses_of xs)) (sym c.in_ok-push.ensures.items)
    (with_node c.args.spec.now.sig c.loop.nodes.items c.in_ok-node_of.field-0 c.loop.invariant c.in_ok-node_of.ensures)
