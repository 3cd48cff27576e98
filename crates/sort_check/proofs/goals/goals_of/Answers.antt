use Rattle.std.proofs.Common.{rules, Err, ◌≡◌, [], take}
use Rattle.spec_core.specs.Findings.{each_after}
use Rattle.spec_core.proofs.Findings.{after_next}
use Rattle.sort_check.specs.Answers.{Tells}
use Rattle.sort_check.specs.GoalTests.{goal_tests, name_test, clause_tests}
use Rattle.sort_check.specs.Goals.{GoalStands}
use Rattle.sort_check.proofs.Pairs.{pairs_next}
use Rattle.sort_check.proofs.Telling.{answer_err, after_tells, tells_first, tells_then}
use Rattle.sort_check.proofs.goals.goals_of.Goals as goal

pub returns-in_err-check_name : goal.returns-in_err-check_name
returns-in_err-check_name c =
    let sig = c.args.sig.now in
    let raw = c.index-raws-place.result in
    let e = c.in_err-check_name.field-0.0 in
    let q : c.from_residual.result ≡ Err e = search rules in
    let here : Tells (goal_tests sig (take c.loop-place.place c.args.raws.now) raw) e = tells_first
    (name_test (take c.loop-place.place c.args.raws.now) raw) (clause_tests sig raw) e
    c.in_err-check_name.ensures in
    answer_err (each_after (goal_tests sig) [] c.args.raws.now) _ c.from_residual.result e q
    (after_tells (goal_tests sig) c.args.raws.now c.loop-place.place raw e c.loop-place-test.true
    c.index-raws-place.is c.loop-place.invariant.clean here)

pub returns-in_err-goal_of : goal.returns-in_err-goal_of
returns-in_err-goal_of c =
    let sig = c.args.sig.now in
    let raw = c.index-raws-place.result in
    let e = c.in_err-goal_of.field-0.0 in
    let q : c.from_residual-in_err-goal_of.result ≡ Err e = search rules in
    let here : Tells (goal_tests sig (take c.loop-place.place c.args.raws.now) raw) e = tells_then
    (name_test (take c.loop-place.place c.args.raws.now) raw) (clause_tests sig raw) e
    c.in_ok-check_name.ensures.0 c.in_err-goal_of.ensures in
    answer_err (each_after (goal_tests sig) [] c.args.raws.now) _ c.from_residual-in_err-goal_of.result e q
    (after_tells (goal_tests sig) c.args.raws.now c.loop-place.place raw e c.loop-place-test.true
    c.index-raws-place.is c.loop-place.invariant.clean here)

pub loop-place-preserved : goal.loop-place-preserved
loop-place-preserved c =
    let sig = c.args.sig.now in
    let raw = c.index-raws-place.result in
    record {
      clean = after_next (goal_tests sig) c.args.raws.now c.loop-place.place raw c.loop-place-test.true
          c.index-raws-place.is c.loop-place.invariant.clean (c.in_ok-check_name.ensures.0, c.in_ok-goal_of.ensures.0);
      made = pairs_next (GoalStands sig) c.args.raws.now c.loop-place.place raw c.loop-place.made
          c.push.new.self c.in_ok-goal_of.field-0 c.loop-place-test.true c.index-raws-place.is
          c.loop-place.invariant.made c.in_ok-goal_of.ensures.1 (search rules);
    }
