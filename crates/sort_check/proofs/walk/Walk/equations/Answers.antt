use Rattle.std.proofs.Common.{rules, Err, ◌≡◌}
use Rattle.std.specs.List.{AllZip}
use Rattle.spec_core.specs.Findings.{Clean}
use Rattle.sort_check.specs.GoalTests.{in_turn, left_by, sides_tests, after_sides}
use Rattle.sort_check.specs.Over.{IsEquationOver}
use Rattle.sort_check.proofs.Pairs.{pairs_next}
use Rattle.sort_check.proofs.Sides.{sides_extend, equations_more}
use Rattle.sort_check.proofs.Telling.{answer_err}
use Rattle.sort_check.proofs.Turns.{turn_next, left_next, turn_end, turn_tells}
use Rattle.sort_check.proofs.walk.Walk.equations.Goals as goal

pub returns-in_err-sides-clause-answer : goal.returns-in_err-sides-clause-answer
returns-in_err-sides-clause-answer c =
    let sig = c.args.self.now.sig.now in
    let es = c.args.entries.now.items in
    let e = c.in_err-sides.field-0.0 in
    let q : c.from_residual.result ≡ Err e = search rules in
    answer_err (in_turn (sides_tests sig) (after_sides sig) es c.args.raws.now) _ c.from_residual.result e q
    (turn_tells (sides_tests sig) (after_sides sig) es c.args.raws.now c.loop-raw.raw-index
    c.raw-item.result e c.loop-raw.entries.items c.loop-raw-test.true c.raw-item.is
    c.loop-raw.invariant.after c.loop-raw.invariant.clean c.in_err-sides.ensures.answer)

pub loop-raw-preserved : goal.loop-raw-preserved
loop-raw-preserved c =
    let sig = c.args.self.now.sig.now in
    let es = c.args.entries.now.items in
    let fs = c.loop-raw.entries.items in
    let gs = c.sides.new.entries.items in
    let raw = c.raw-item.result in
    let h = c.in_ok-sides.ensures.answer in
    let grown = sides_extend sig fs gs raw h.1.0 in
    record {
      few = search rules;
      clean = turn_next (sides_tests sig) (after_sides sig) es c.args.raws.now c.loop-raw.raw-index raw fs
          c.loop-raw-test.true c.raw-item.is c.loop-raw.invariant.after c.loop-raw.invariant.clean h.0;
      after = left_next (sides_tests sig) (after_sides sig) es c.args.raws.now c.loop-raw.raw-index raw fs gs
          c.loop-raw-test.true c.raw-item.is c.loop-raw.invariant.after h.1.0;
      made = pairs_next (IsEquationOver sig gs) c.args.raws.now c.loop-raw.raw-index raw c.loop-raw.made
          c.push.new.self c.in_ok-sides.field-0 c.loop-raw-test.true c.raw-item.is
          (equations_more sig fs gs grown _ c.loop-raw.made c.loop-raw.invariant.made) h.1.1 (search rules);
    }

pub returns-clause-answer : goal.returns-clause-answer
returns-clause-answer c =
    let sig = c.args.self.now.sig.now in
    let es = c.args.entries.now.items in
    turn_end (sides_tests sig) (after_sides sig) es c.args.raws.now c.loop-raw.raw-index
    (λ xs. Clean (in_turn (sides_tests sig) (after_sides sig) es xs)
    × ((c.loop-raw.entries.items ≡ left_by (after_sides sig) es xs)
    × AllZip (IsEquationOver sig c.loop-raw.entries.items) xs c.loop-raw.made)) c.loop-raw-test.false
    (c.loop-raw.invariant.clean, (c.loop-raw.invariant.after, c.loop-raw.invariant.made))
