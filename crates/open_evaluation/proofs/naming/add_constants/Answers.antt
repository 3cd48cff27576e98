use Rattle.std.proofs.Common.{◌++◌, ◌∷◌, ◌+◌, [], ap, sym, ◌∙◌, get_or, take, append_assoc}
use Rattle.open_evaluation.specs.Shifted.{constant_of}
use Rattle.open_evaluation.specs.Marks.{marks, marked_constants}
use Rattle.open_evaluation.proofs.Marked.{marked_more, constant_is}
use Rattle.open_evaluation.proofs.naming.add_constants.Goals as goal

pub loop-place-preserved : goal.loop-place-preserved
loop-place-preserved c =
    let i = c.loop-place.place in
    let n = c.args.first + i in
    let s = get_or c.args.sorts.now i (record { 0 = 0 }) in
    let one = constant_of (marks n) s in
    c.in_ok-push.ensures.pushed
    ∙ ap (λ e. c.loop-place.symbols ++ e ∷ [])
    (constant_is c.in_ok-name.name c.new-args.result s n c.in_ok-name.ensures c.new-args.ensures)
    ∙ ap (λ es. es ++ one ∷ []) c.loop-place.invariant
    ∙ append_assoc c.args.symbols.now (marked_constants c.args.first (take i c.args.sorts.now)) (one ∷ [])
    ∙ ap (λ es. c.args.symbols.now ++ es)
    (sym (marked_more c.args.first c.args.sorts.now i (record { 0 = 0 }) c.loop-place-test.true))
