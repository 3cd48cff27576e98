use Rattle.std.proofs.Common.{inl, inr, refl, ap}
use Rattle.clause_core.specs.ClauseInstances.{clause_instance}
use Rattle.inference_rules.proofs.ReferredInstances.{sorted_here, past_limits}
use Rattle.inference_rules.proofs.referring.entries_here.Goals as goal

pub returns-then-not-instance_within : goal.returns-then-not-instance_within
returns-then-not-instance_within c =
    let h = sorted_here c.args.spec.now c.args.here.now c.args.clause.now c.args.terms.now c.as_slice.result.now
    c.as_slice-2.result.now c.as_slice.ensures c.as_slice-2.ensures
    (c.have_sorts.ensures.0 c.if-not-have_sorts.false) in
    let g = past_limits c.args.spec.now c.args.here.now c.args.clause.now c.args.terms.now
    c.in_ok-theta.theta.terms c.in_ok-theta.ensures c.instance_within.result c.if-not-instance_within.true
    c.instance_within.ensures in
    inl (h, inr (g, refl))

pub returns : goal.returns
returns c =
    let h = sorted_here c.args.spec.now c.args.here.now c.args.clause.now c.args.terms.now c.as_slice.result.now
    c.as_slice-2.result.now c.as_slice.ensures c.as_slice-2.ensures
    (c.have_sorts.ensures.0 c.if-not-have_sorts.false) in (
      h,
      (c.instance_within.ensures c.args.here.now.ctx).0 c.if-not-instance_within.false,
      ap (λ z. clause_instance z c.args.here.now.ctx c.args.clause.now) c.in_ok-theta.ensures,
    )
