use Rattle.std.proofs.Common.{[], ◌∷◌, ◌++◌, Some, ap, ◌∙◌, arith}
use Rattle.term_core.specs.Tree.{Tree}
use Rattle.test_sets.proofs.Variables.{entries_next}
use Rattle.test_sets.proofs.patterns.variables.Goals as goal

pub loop-number-preserved : goal.loop-number-preserved
loop-number-preserved c =
    let n = c.loop-number.number in
    c.in_ok-push.ensures.items
    ∙ ap (λ (t : Tree). c.loop-number.terms.items ++ Some t ∷ []) c.var.ensures
    ∙ entries_next c.args.from n c.loop-number.terms.items (omega (arith, c.loop-number.auto.number))
    c.loop-number.invariant
