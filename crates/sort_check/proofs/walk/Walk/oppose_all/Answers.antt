use Rattle.std.proofs.Common.{rules, Err, ◌≡◌, subst}
use Rattle.spec_core.specs.Findings.{Clean}
use Rattle.sort_check.specs.Answers.{Tells, Answers}
use Rattle.sort_check.specs.GoalTests.{in_turn, left_by, opposite_tests, after_opposite, equations_of}
use Rattle.sort_check.proofs.Telling.{answer_err}
use Rattle.sort_check.proofs.Turns.{tells_left, both_answer}
use Rattle.sort_check.proofs.walk.Walk.oppose_all.Goals as goal

pub returns-in_err-oppose-clause-answer : goal.returns-in_err-oppose-clause-answer
returns-in_err-oppose-clause-answer c =
    let sig = c.args.self.now.sig.now in
    let raw = c.args.raw.now in
    let es = c.args.entries.now.items in
    let e = c.in_err-oppose.field-0.0 in
    let q : c.from_residual.result ≡ Err e = search rules in
    let h : Tells (in_turn (opposite_tests sig) (after_opposite sig) es raw.premises) e = subst
    (λ xs. Tells (in_turn (opposite_tests sig) (after_opposite sig) es xs) e) c.as_slice.ensures
    c.in_err-oppose.ensures.answer in
    answer_err (in_turn (opposite_tests sig) (after_opposite sig) es (equations_of raw)) _
    c.from_residual.result e q (tells_left (opposite_tests sig) (after_opposite sig) es raw.premises
    raw.conclusions e h)

pub returns-clause-answer : goal.returns-clause-answer
returns-clause-answer c =
    let sig = c.args.self.now.sig.now in
    let raw = c.args.raw.now in
    let es = c.args.entries.now.items in
    let fs = c.oppose.new.entries.items in
    let first = subst (λ xs. Clean (in_turn (opposite_tests sig) (after_opposite sig) es xs)
    × (fs ≡ left_by (after_opposite sig) es xs)) c.as_slice.ensures c.in_ok-oppose.ensures.answer in
    let second = subst (λ xs. Answers (in_turn (opposite_tests sig) (after_opposite sig) fs xs)
    (λ _. c.oppose-2.new.entries.items ≡ left_by (after_opposite sig) fs xs) c.oppose-2.result)
    c.as_slice-2.ensures c.oppose-2.ensures.answer in
    both_answer (opposite_tests sig) (after_opposite sig) es fs c.oppose-2.new.entries.items raw.premises
    raw.conclusions c.oppose-2.result first.0 first.1 second
