use Rattle.std.proofs.Common.{◌+◌, [], ◌∷◌, ◌++◌, refl, sym, ◌∙◌}
use Rattle.test_sets.proofs.Variables.{variables_next}
use Rattle.plain_proof.proofs.cases.fresh.Goals as goal

pub loop-number-preserved : goal.loop-number-preserved
loop-number-preserved c =
    let n = c.loop-number.number in
    c.in_ok-push.ensures.pushed ∙ (λ i. c.loop-number.invariant i ++ c.var.ensures i ∷ [])
    ∙ sym (variables_next c.args.from n (c.args.from + n) refl)
