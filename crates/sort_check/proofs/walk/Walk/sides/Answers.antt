use Rattle.std.proofs.Common.{◌≡◌, ◌∙◌}
use Rattle.sort_check.specs.GoalTests.{own_sort, wanted}
use Rattle.sort_check.proofs.Sides.{sides_answer}
use Rattle.sort_check.proofs.walk.Walk.sides.Goals as goal

pub returns-clause-answer : goal.returns-clause-answer
returns-clause-answer c =
    let sig = c.args.self.now.sig.now in
    let raw = c.args.raw.now in
    let place : c.wanted-place.result ≡ wanted (own_sort sig raw.left)
    (own_sort sig raw.right) = c.wanted-place.ensures
    ∙ (λ i. wanted (c.own_sort.ensures i) (c.own_sort-2.ensures i)) in
    sides_answer sig c.args.self.now.part c.args.entries.now.items c.term.new.entries.items
    c.term-2.new.entries.items raw c.in_ok-left.left c.in_ok-right.right c.wanted-place.result
    c.requires.part place c.in_ok-left.ensures.answer c.in_ok-right.ensures.answer
