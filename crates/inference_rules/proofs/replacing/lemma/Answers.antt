use Rattle.std.proofs.Common.{None}
use Rattle.std.specs.Prelude.{Contains}
use Rattle.clause_core.specs.Replacing.{rewritten_by}
use Rattle.inference_rules.specs.Nodes.{referred_to}
use Rattle.inference_rules.proofs.ReferredRows.{goal_answered}
use Rattle.inference_rules.proofs.replacing.lemma.Goals as goal

pub returns : goal.returns
returns g c =
    let at = c.in-Some.ensures in
    goal_answered (λ d. rewritten_by c.args.scope.now.spec.now c.args.here.now d c.args.terms.now
    c.args.place.now c.args.left (referred_to None))
    c.args.scope.now.spec.now (Contains c.args.scope.now.proved.now) c.args.name.now at.0 c.in-Some.goal.now at.1
    c.in_ok-lemma.lemma c.in_ok-lemma.ensures
    (g.O.TermOrder.above c.args.scope.now.order.now) c.args.here.now c.rewrite.result c.rewrite.ensures
