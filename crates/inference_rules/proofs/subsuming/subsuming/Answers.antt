use Rattle.std.proofs.Common.{◌≡◌, true, false, sym, ◌∙◌}
use Rattle.std.proofs.lemmas.Result.{err_from_is_err_and}
use Rattle.inference_rules.proofs.ReferredInstances.{not_subsumed, subsumed, no_instance_subsumes}
use Rattle.inference_rules.proofs.subsuming.subsuming.Goals as goal

pub returns-then-not-subsumes-clause-row : goal.returns-then-not-subsumes-clause-row
returns-then-not-subsumes-clause-row c =
    let i = c.in_ok-instance in
    λ refs.
    not_subsumed c.args.spec.now c.args.here.now c.args.clause.now c.args.terms.now refs i.instance i.ensures.0
    i.ensures.1 i.ensures.2
    (λ h. let q : c.subsumes.result ≡ true = c.subsumes.ensures.1 h in
    let r : false ≡ true = sym c.if-not-subsumes.true ∙ q in cc)

pub returns-in_err-instance-clause-row : goal.returns-in_err-instance-clause-row
returns-in_err-instance-clause-row c =
    let p = err_from_is_err_and c.from_residual.result c.from_residual.ensures.1 in
    λ refs.
    rw (p.1, p.2)
    (no_instance_subsumes c.args.spec.now c.args.here.now c.args.clause.now c.args.terms.now refs
    c.in_err-instance.field-0.0 c.in_err-instance.ensures)

pub returns-clause-row : goal.returns-clause-row
returns-clause-row c =
    let i = c.in_ok-instance in
    λ refs.
    subsumed c.args.spec.now c.args.here.now c.args.clause.now c.args.terms.now refs i.instance i.ensures.0
    i.ensures.1 i.ensures.2
    (c.subsumes.ensures.0 c.if-not-subsumes.false)
