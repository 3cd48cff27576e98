use Rattle.std.proofs.Common.{◌∷◌, [], ◌++◌, ap, sym, ◌∙◌, arith}
use Rattle.term_core.specs.Tree.{var}
use Rattle.test_sets.proofs.Variables.{variables_next}
use Rattle.sample_values.proofs.sides.applied.Goals as goal

pub loop-number-preserved : goal.loop-number-preserved
loop-number-preserved c =
    c.in_ok-push.ensures.items
    ∙ ap (λ t. c.loop-number.args.items ++ t ∷ []) c.var.ensures
    ∙ ap (λ ts. ts ++ var c.loop-number.number ∷ []) c.loop-number.invariant
    ∙ sym (variables_next 0 c.loop-number.number c.loop-number.number (omega arith))
