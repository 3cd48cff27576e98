use Rattle.std.proofs.Common.{rules, Err, ◌≡◌, subst}
use Rattle.sort_check.specs.Answers.{Tells}
use Rattle.sort_check.specs.GoalTests.{in_turn, left_by, sides_tests, after_sides, equations_of}
use Rattle.sort_check.proofs.Telling.{answer_err}
use Rattle.sort_check.proofs.Turns.{tells_left, tells_right}
use Rattle.sort_check.proofs.ClauseLists.{clause_made}
use Rattle.sort_check.proofs.walk.Walk.clause.Goals as goal

pub returns-in_err-premises-clause-answer : goal.returns-in_err-premises-clause-answer
returns-in_err-premises-clause-answer c =
    let sig = c.args.self.now.sig.now in
    let raw = c.args.raw.now in
    let es = c.args.entries.now.items in
    let e = c.in_err-premises.field-0.0 in
    let q : c.from_residual.result ≡ Err e = search rules in
    let h : Tells (in_turn (sides_tests sig) (after_sides sig) es raw.premises) e = subst
    (λ xs. Tells (in_turn (sides_tests sig) (after_sides sig) es xs) e) c.as_slice.ensures
    c.in_err-premises.ensures.answer in
    answer_err (in_turn (sides_tests sig) (after_sides sig) es (equations_of raw)) _ c.from_residual.result e q
    (tells_left (sides_tests sig) (after_sides sig) es raw.premises raw.conclusions e h)

pub returns-in_err-conclusions-clause-answer : goal.returns-in_err-conclusions-clause-answer
returns-in_err-conclusions-clause-answer c =
    let sig = c.args.self.now.sig.now in
    let raw = c.args.raw.now in
    let es = c.args.entries.now.items in
    let e = c.in_err-conclusions.field-0.0 in
    let q : c.from_residual-in_err-conclusions.result ≡ Err e = search rules in
    let first = subst (λ xs. Rattle.spec_core.specs.Findings.Clean
    (in_turn (sides_tests sig) (after_sides sig) es xs)
    × (c.equations.new.entries.items ≡ left_by (after_sides sig) es xs)) c.as_slice.ensures
    (c.in_ok-premises.ensures.answer.0, c.in_ok-premises.ensures.answer.1.0) in
    let h : Tells (in_turn (sides_tests sig) (after_sides sig) (left_by (after_sides sig) es raw.premises)
    raw.conclusions) e = subst (λ vs. Tells (in_turn (sides_tests sig) (after_sides sig) vs raw.conclusions)
    e) first.1 (subst (λ xs. Tells
    (in_turn (sides_tests sig) (after_sides sig) c.equations.new.entries.items xs) e) c.as_slice-2.ensures
    c.in_err-conclusions.ensures.answer) in
    answer_err (in_turn (sides_tests sig) (after_sides sig) es (equations_of raw)) _
    c.from_residual-in_err-conclusions.result e q
    (tells_right (sides_tests sig) (after_sides sig) es raw.premises raw.conclusions e first.0 h)

pub returns-clause-answer : goal.returns-clause-answer
returns-clause-answer c =
    let raw = c.args.raw.now in
    clause_made c.args.self.now.sig.now c.args.entries.now.items c.equations.new.entries.items
    c.equations-2.new.entries.items raw c.as_slice.result.now c.as_slice-2.result.now
    c.in_ok-premises.premises c.in_ok-conclusions.conclusions c.as_slice.ensures c.as_slice-2.ensures
    c.in_ok-premises.ensures.answer c.in_ok-conclusions.ensures.answer
