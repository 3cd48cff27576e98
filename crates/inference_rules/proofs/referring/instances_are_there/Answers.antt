use Rattle.std.proofs.Common.{◌≡◌, true, false, sym, ◌∙◌}
use Rattle.inference_rules.proofs.ReferredInstances.{premise_missing}
use Rattle.inference_rules.proofs.referring.instances_are_there.Goals as goal

pub returns-then-not-premise_is_there : goal.returns-then-not-premise_is_there
returns-then-not-premise_is_there c = (
  λ h. absurd (let q : false ≡ true = h in cc),
  λ there. absurd (premise_missing c.args.theta.now.terms c.args.here.now.ctx c.args.here.now c.args.clause.now
      c.as_slice-premise-items.result.now c.loop-premise.premise-index c.premise-item.result
      c.as_slice-premise-items.ensures c.loop-premise-test.true c.premise-item.is
      (record { left = c.in_ok-apply.field-0; right = c.in_ok-apply-2.field-0 })
      (λ i. record { left = c.in_ok-apply.ensures i; right = c.in_ok-apply-2.ensures i })
      (λ h. let q : true ≡ false = sym (c.premise_is_there.ensures.1 h) ∙ c.if-not-premise_is_there.true in cc) there),
)
