use Rattle.std.proofs.Common.{◌≡◌, ◌∙◌, ◌++◌, ap, sym}
use Rattle.sort_check.specs.GoalTests.{pairs_in}
use Rattle.sort_check.proofs.Sides.{pairs_both}
use Rattle.sort_check.proofs.walk.Walk.pairs.Goals as goal

pub returns : goal.returns
returns c =
    let sig = c.args.self.now.sig.now in
    let raw = c.args.raw.now in
    let es = c.args.entries.now in
    let first : c.add_pairs.new.pairs.items ≡ pairs_in sig es raw.premises = c.in_ok-add_pairs.ensures
    ∙ ap (λ ps. ps ++ pairs_in sig es c.as_slice.result.now) c.new-pairs.ensures.items
    ∙ ap (λ xs. pairs_in sig es xs) c.as_slice.ensures in
    c.in_ok-add_pairs-2.ensures ∙ ap (λ ps. ps ++ pairs_in sig es c.as_slice-2.result.now) first
    ∙ ap (λ xs. pairs_in sig es raw.premises ++ pairs_in sig es xs) c.as_slice-2.ensures
    ∙ sym (pairs_both sig es raw.premises raw.conclusions)
