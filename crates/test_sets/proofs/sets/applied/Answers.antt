use Rattle.std.proofs.Common.{[], ◌∷◌, ◌++◌, sym, ◌∙◌, arith}
use Rattle.test_sets.proofs.Variables.{variables_next}
use Rattle.test_sets.proofs.sets.applied.Goals as goal

pub loop-number-preserved : goal.loop-number-preserved
loop-number-preserved c =
    let n = c.loop-number.number in
    c.in_ok-push.ensures.pushed ∙ (λ i. c.loop-number.invariant i ++ c.var.ensures i ∷ [])
    ∙ sym (variables_next 0 n n (omega arith))
