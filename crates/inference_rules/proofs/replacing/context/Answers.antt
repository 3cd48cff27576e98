use Rattle.std.proofs.Common.{◌≡◌, [], ◌∷◌, true, false, sym, ◌∙◌}
use Rattle.clause_core.specs.declared.answers.Why.TheVariants.{DoesNotFit}
use Rattle.clause_core.specs.Places.{holding}
use Rattle.clause_core.specs.Replacing.{context_row}
use Rattle.clause_core.specs.Rows.{compared_child}
use Rattle.clause_core.specs.Says.{IsReference}
use Rattle.inference_rules.specs.declared.nodes.StepError.TheVariants.{Why as because}
use Rattle.inference_rules.proofs.ReferredRows.{no_pairs}
use Rattle.inference_rules.proofs.ReplacedTerms.{not_context, context_made, context_testable}
use Rattle.inference_rules.proofs.RowAnswers.{refused, made}
use Rattle.inference_rules.proofs.replacing.context.Goals as goal

pub returns-then-not-same : goal.returns-then-not-same
returns-then-not-same g c = λ spec.
    let at = c.in-Some-Some.ensures in
    let own = c.in-Some-Some.ensures' in
    refused (g.O.TermOrder.above c.args.order.now) c.args.here.now []
    (context_row spec c.args.here.now c.args.place.now c.args.number c.args.left) (because DoesNotFit)
    (not_context spec c.args.here.now c.args.place.now c.args.left c.args.number at.0 own.0
    c.in-Some-Some.term.now c.in-Some-Some.premise.now at.1 own.1
    (λ q. let k : c.same.result ≡ true = c.same.ensures.1 (c.side.ensures ∙ q) in
    let r : false ≡ true = sym c.if-not-same.true ∙ k in cc))

pub child_holding-requires-clause-new : goal.child_holding-requires-clause-new
child_holding-requires-clause-new g c =
    let own = c.in-Some-Some.ensures' in
    context_testable c.args.left c.in-Some-Some.premise.now c.in_ok-other.other (c.in_ok-other.ensures
    ∙ c.side-2.ensures) c.args.here.now c.requires c.args.number own.0 own.1

pub returns : goal.returns
returns g c = λ spec.
    let above = g.O.TermOrder.above c.args.order.now in
    let at = c.in-Some-Some.ensures in
    let own = c.in-Some-Some.ensures' in
    made above c.args.here.now [] (context_row spec c.args.here.now c.args.place.now c.args.number c.args.left)
    (compared_child (holding at.0 c.in_ok-other.other) ∷ []) [] c.child_holding.result
    (context_made spec c.args.here.now c.args.place.now c.args.left c.args.number at.0 own.0
    c.in-Some-Some.term.now c.in-Some-Some.premise.now at.1 own.1
    (sym c.side.ensures ∙ c.same.ensures.0 c.if-not-same.false) c.in_ok-other.other (c.in_ok-other.ensures
    ∙ c.side-2.ensures))
    (c.child_holding.ensures at.0 [] (no_pairs (IsReference above c.args.here.now) c.new.result c.new.ensures))
