use Rattle.std.proofs.Common.{[]}
use Rattle.std.specs.Prelude.{Ok, Contains}
use Rattle.std.proofs.lemmas.Result.{err_from_is_err_and}
use Rattle.clause_core.specs.Subsuming.{subsumed_by, by_lemma_row}
use Rattle.inference_rules.proofs.ReferredRows.{goal_refused, goal_made}
use Rattle.inference_rules.proofs.RowAnswers.{refused, made}
use Rattle.inference_rules.proofs.subsuming.by_lemma.Goals as goal

pub returns-in_err-_instance : goal.returns-in_err-_instance
returns-in_err-_instance c =
    let p = err_from_is_err_and c.from_residual-in_err-_instance.result c.from_residual-in_err-_instance.ensures.1 in
    let at = c.in-Some.ensures in
    let error = c.in_err-_instance.field-0.0 in
    rw (p.1, p.2)
    (refused (λ t s. ⊥) c.args.here.now []
    (by_lemma_row c.args.spec.now c.args.here.now (Contains c.args.proved.now) c.args.name.now
    c.args.terms.now) error
    (goal_refused (λ d. subsumed_by c.args.spec.now c.args.here.now d c.args.terms.now (λ x. []))
    c.args.spec.now (Contains c.args.proved.now) c.args.name.now at.0 c.in-Some.goal.now at.1
    c.in_ok-lemma.lemma c.in_ok-lemma.ensures error
    (c.in_err-_instance.ensures.row (λ x. []))))

pub returns : goal.returns
returns c =
    let at = c.in-Some.ensures in
    made (λ t s. ⊥) c.args.here.now []
    (by_lemma_row c.args.spec.now c.args.here.now (Contains c.args.proved.now) c.args.name.now
    c.args.terms.now) [] [] (Ok c.closed.result)
    (goal_made (λ d. subsumed_by c.args.spec.now c.args.here.now d c.args.terms.now (λ x. [])) c.args.spec.now
    (Contains c.args.proved.now) c.args.name.now at.0 c.in-Some.goal.now at.1 c.in_ok-lemma.lemma
    c.in_ok-lemma.ensures [] []
    (c.in_ok-_instance.ensures.row (λ x. [])))
    (c.closed.ensures c.args.here.now)
