use Rattle.std.proofs.Common.{rules, Err, ◌≡◌}
use Rattle.spec_core.specs.Findings.{Clean}
use Rattle.sort_check.specs.GoalTests.{in_turn, left_by, opposite_tests, after_opposite}
use Rattle.sort_check.proofs.Telling.{answer_err}
use Rattle.sort_check.proofs.Turns.{turn_next, left_next, turn_end, turn_tells}
use Rattle.sort_check.proofs.walk.Walk.oppose.Goals as goal

pub returns-in_err-oppose_sides-clause-answer : goal.returns-in_err-oppose_sides-clause-answer
returns-in_err-oppose_sides-clause-answer c =
    let sig = c.args.self.now.sig.now in
    let es = c.args.entries.now.items in
    let e = c.in_err-oppose_sides.field-0.0 in
    let q : c.from_residual.result ≡ Err e = search rules in
    answer_err (in_turn (opposite_tests sig) (after_opposite sig) es c.args.raws.now) _ c.from_residual.result e
    q (turn_tells (opposite_tests sig) (after_opposite sig) es c.args.raws.now c.loop-raw.raw-index
    c.raw-item.result e c.loop-raw.entries.items c.loop-raw-test.true c.raw-item.is
    c.loop-raw.invariant.after c.loop-raw.invariant.clean c.in_err-oppose_sides.ensures.answer)

pub loop-raw-preserved : goal.loop-raw-preserved
loop-raw-preserved c =
    let sig = c.args.self.now.sig.now in
    let es = c.args.entries.now.items in
    let h = c.in_ok-oppose_sides.ensures.answer in
    record {
      few = search rules;
      clean = turn_next (opposite_tests sig) (after_opposite sig) es c.args.raws.now c.loop-raw.raw-index
          c.raw-item.result c.loop-raw.entries.items c.loop-raw-test.true c.raw-item.is
          c.loop-raw.invariant.after c.loop-raw.invariant.clean h.0;
      after = left_next (opposite_tests sig) (after_opposite sig) es c.args.raws.now c.loop-raw.raw-index
          c.raw-item.result c.loop-raw.entries.items c.oppose_sides.new.entries.items c.loop-raw-test.true
          c.raw-item.is c.loop-raw.invariant.after h.1;
    }

pub returns-clause-answer : goal.returns-clause-answer
returns-clause-answer c =
    let sig = c.args.self.now.sig.now in
    let es = c.args.entries.now.items in
    turn_end (opposite_tests sig) (after_opposite sig) es c.args.raws.now c.loop-raw.raw-index
    (λ xs. Clean (in_turn (opposite_tests sig) (after_opposite sig) es xs)
    × (c.loop-raw.entries.items ≡ left_by (after_opposite sig) es xs)) c.loop-raw-test.false
    (c.loop-raw.invariant.clean, c.loop-raw.invariant.after)
