use Rattle.std.proofs.Common.{◌≡◌, ◌++◌, ◌∷◌, ◌+◌, [], ap, sym, ◌∙◌}
use Rattle.open_evaluation.specs.Marks.{marks, marks_from}
use Rattle.open_evaluation.proofs.Marked.{marks_more}
use Rattle.open_evaluation.proofs.naming.sort_names.Goals as goal

pub loop-number-preserved : goal.loop-number-preserved
loop-number-preserved c =
    let made = marks_more 5 c.loop-number.number in
    let name : c.in_ok-marks_name.field-0 ≡ marks (5 + c.loop-number.number) = c.in_ok-marks_name.ensures in
    c.in_ok-push.ensures.pushed ∙ ap (λ ns. ns ++ c.in_ok-marks_name.field-0 ∷ []) c.loop-number.invariant
    ∙ ap (λ n. marks_from 5 c.loop-number.number ++ n ∷ []) name ∙ sym made
