use Rattle.std.proofs.Common.{◌∙◌, ap, get_or, max}
use Rattle.term_core.specs.declared.ids.SymId.{SymId}
use Rattle.sort_check.proofs.LineLoops.{greatest-next}
use Rattle.sort_check.proofs.orders.greatest.Goals as goal

pub loop-function-preserved : goal.loop-function-preserved
loop-function-preserved c =
    let functions = c.args.functions.now in
    let i = c.loop-function.function-index in
    let first : SymId = record { 0 = 0 } in
    c.max-level.ensures ∙ ap (λ n. max n (get_or functions i first).0) c.loop-function.invariant
    ∙ greatest-next functions i first c.loop-function-test.true
