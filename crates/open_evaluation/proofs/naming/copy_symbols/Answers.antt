use Rattle.std.proofs.Common.{◌++◌, ◌∷◌, [], ap, sym, ◌∙◌, arith}
use Rattle.open_evaluation.proofs.Marked.{part_more}
use Rattle.open_evaluation.proofs.naming.copy_symbols.Goals as goal

pub loop-number-preserved : goal.loop-number-preserved
loop-number-preserved c =
    c.in_ok-push.ensures.pushed ∙ ap (λ xs. xs ++ c.in_ok-copy_symbol.field-0 ∷ []) c.loop-number.invariant
    ∙ sym (part_more c.args.sig.now.table c.args.from c.loop-number.number c.in_ok-copy_symbol.field-0
    c.in_ok-copy_symbol.ensures (omega arith))
