use Rattle.std.proofs.Common.{[], ◌∷◌, not, ap, sym, ◌∙◌}
use Rattle.std.proofs.lemmas.Option.{MatchOption-at_none}
use Rattle.std.proofs.lemmas.Result.{err_from_is_err_and}
use Rattle.substitutions.specs.Substitution.{apply}
use Rattle.clause_core.specs.declared.answers.Why.TheVariants.{DoesNotFit, NoSuchPlace}
use Rattle.clause_core.specs.ClauseInstances.{clause_instance, equation_instance}
use Rattle.clause_core.specs.Places.{holding}
use Rattle.clause_core.specs.Replacing.{replaced_by, rewritten_by}
use Rattle.clause_core.specs.Rows.{compared_child}
use Rattle.inference_rules.specs.declared.nodes.StepError.TheVariants.{Why as because}
use Rattle.inference_rules.specs.Nodes.{referred_to}
use Rattle.inference_rules.proofs.ReferredInstances.{no_instance, refused_at, made_at}
use Rattle.inference_rules.proofs.ReplacedTerms.{no_place, not_rewritten, replaced, replaced_testable, side_instance}
use Rattle.inference_rules.proofs.RowAnswers.{refused, made}
use Rattle.inference_rules.proofs.replacing.rewrite.Goals as goal

pub returns-in_err-theta : goal.returns-in_err-theta
returns-in_err-theta g c =
    let p = err_from_is_err_and c.from_residual.result c.from_residual.ensures.1 in
    let error = c.in_err-theta.field-0.0 in
    rw (p.1, p.2)
    (refused (g.O.TermOrder.above c.args.scope.now.order.now) c.args.here.now []
    (rewritten_by c.args.scope.now.spec.now c.args.here.now c.args.clause.now c.args.how.now.terms.now
    c.args.how.now.place.now c.args.how.now.left (referred_to c.args.node)) error
    (no_instance c.args.scope.now.spec.now c.args.here.now c.args.clause.now c.args.how.now.terms.now
    (λ z. replaced_by c.args.scope.now.spec.now c.args.here.now z c.args.how.now.place.now c.args.how.now.left
    (referred_to c.args.node z)) error c.in_err-theta.ensures))

pub returns-in_default : goal.returns-in_default
returns-in_default g c =
    let h = c.in_ok-theta.ensures in
    let instance = clause_instance c.in_ok-theta.theta.terms c.args.here.now.ctx c.args.clause.now in
    refused (g.O.TermOrder.above c.args.scope.now.order.now) c.args.here.now []
    (rewritten_by c.args.scope.now.spec.now c.args.here.now c.args.clause.now c.args.how.now.terms.now
    c.args.how.now.place.now c.args.how.now.left (referred_to c.args.node)) (because NoSuchPlace)
    (refused_at c.args.scope.now.spec.now c.args.here.now c.args.clause.now c.args.how.now.terms.now instance h.0 h.1 h.2
    (λ z. replaced_by c.args.scope.now.spec.now c.args.here.now z c.args.how.now.place.now c.args.how.now.left
    (referred_to c.args.node z)) (because NoSuchPlace)
    (no_place c.args.scope.now.spec.now c.args.here.now c.args.how.now.place.now c.args.how.now.left instance
    (referred_to c.args.node instance) c.in_default.ensures))

pub returns-in_default-2 : goal.returns-in_default-2
returns-in_default-2 g c =
    let h = c.in_ok-theta.ensures in
    let instance = clause_instance c.in_ok-theta.theta.terms c.args.here.now.ctx c.args.clause.now in
    let at = c.in-Some.ensures in
    refused (g.O.TermOrder.above c.args.scope.now.order.now) c.args.here.now []
    (rewritten_by c.args.scope.now.spec.now c.args.here.now c.args.clause.now c.args.how.now.terms.now
    c.args.how.now.place.now c.args.how.now.left (referred_to c.args.node)) (because DoesNotFit)
    (refused_at c.args.scope.now.spec.now c.args.here.now c.args.clause.now c.args.how.now.terms.now instance h.0 h.1 h.2
    (λ z. replaced_by c.args.scope.now.spec.now c.args.here.now z c.args.how.now.place.now c.args.how.now.left
    (referred_to c.args.node z)) (because DoesNotFit)
    (not_rewritten c.args.scope.now.spec.now c.args.here.now c.args.how.now.place.now c.args.how.now.left instance
    (referred_to c.args.node instance) at.0 c.in-Some.term.now at.1
    (MatchOption-at_none _ _ c.in_default-2.is c.in_ok-equation.ensures)))

pub child_holding-requires-clause-new : goal.child_holding-requires-clause-new
child_holding-requires-clause-new g c =
    let entries = c.in_ok-theta.theta.terms in
    let e = c.in-Some-2.equation.now in
    let r = rw c.in-Some-2.is at c.in_ok-equation.ensures in
    replaced_testable c.args.how.now.left (equation_instance entries e) c.in_ok-other.other
    (c.in_ok-other.ensures ∙ ap (λ u. apply entries u) c.side.ensures
    ∙ sym (side_instance entries (not c.args.how.now.left) e)) c.args.here.now
    (clause_instance entries c.args.here.now.ctx c.args.clause.now) c.in-Some.term.now r.0 r.1 c.in_ok-theta.ensures.1

pub returns : goal.returns
returns g c =
    let h = c.in_ok-theta.ensures in
    let entries = c.in_ok-theta.theta.terms in
    let instance = clause_instance entries c.args.here.now.ctx c.args.clause.now in
    let at = c.in-Some.ensures in
    let e = c.in-Some-2.equation.now in
    let r = rw c.in-Some-2.is at c.in_ok-equation.ensures in
    let new = c.in_ok-other.other in
    made (g.O.TermOrder.above c.args.scope.now.order.now) c.args.here.now []
    (rewritten_by c.args.scope.now.spec.now c.args.here.now c.args.clause.now c.args.how.now.terms.now
    c.args.how.now.place.now c.args.how.now.left (referred_to c.args.node))
    (compared_child (holding at.0 new) ∷ []) (referred_to c.args.node instance) c.child_holding.result
    (made_at c.args.scope.now.spec.now c.args.here.now c.args.clause.now c.args.how.now.terms.now instance h.0 h.1 h.2
    (λ z. replaced_by c.args.scope.now.spec.now c.args.here.now z c.args.how.now.place.now c.args.how.now.left
    (referred_to c.args.node z)) (compared_child (holding at.0 new) ∷ []) (referred_to c.args.node instance)
    (replaced c.args.scope.now.spec.now c.args.here.now c.args.how.now.place.now c.args.how.now.left instance
    (referred_to c.args.node instance) at.0 c.in-Some.term.now at.1
    r.0 (equation_instance entries e) r.1 new (c.in_ok-other.ensures ∙ ap (λ u. apply entries u) c.side.ensures
    ∙ sym (side_instance entries (not c.args.how.now.left) e))))
    (c.child_holding.ensures at.0 (referred_to c.args.node instance) c.in_ok-refs.ensures)
