use Rattle.std.proofs.Common.{Some}
use Rattle.clause_core.specs.Replacing.{rewritten_by}
use Rattle.inference_rules.specs.Answers.{clauses_of}
use Rattle.inference_rules.specs.Nodes.{referred_to}
use Rattle.inference_rules.proofs.ReferredRows.{node_answered}
use Rattle.inference_rules.proofs.replacing.hyp.Goals as goal

pub returns : goal.returns
returns g c =
    let at = c.in-Some.ensures in
    node_answered (λ d. rewritten_by c.args.scope.now.spec.now c.args.here.now d c.args.terms.now
    c.args.place.now c.args.left (referred_to (Some c.args.number)))
    (clauses_of c.args.scope.now.nodes.now) c.args.number at.0 c.in-Some.node.now.clause at.1
    (g.O.TermOrder.above c.args.scope.now.order.now) c.args.here.now c.rewrite.result c.rewrite.ensures
