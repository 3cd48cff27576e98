use Rattle.std.proofs.Common.{rules, Err, ◌≡◌}
use Rattle.spec_core.proofs.Findings.{after_next}
use Rattle.sort_check.specs.GoalTests.{bind_tests, binds_tests, bound}
use Rattle.sort_check.proofs.Telling.{answer_err}
use Rattle.sort_check.proofs.Binds.{made_next, bind_fault}
use Rattle.sort_check.proofs.goals.bindings.Goals as goal

pub returns-in_err-check_bind-clause-answer : goal.returns-in_err-check_bind-clause-answer
returns-in_err-check_bind-clause-answer c =
    let sig = c.args.sig.now in
    let e = c.in_err-check_bind.field-0.0 in
    let q : c.from_residual.result ≡ Err e = search rules in
    answer_err (binds_tests sig c.args.raws.now) _ c.from_residual.result e q
    (bind_fault sig c.args.raws.now c.loop-place.place c.index-raws-place.result e c.loop-place-test.true
    c.index-raws-place.is c.loop-place.invariant.clean c.in_err-check_bind.ensures)

pub loop-place-preserved : goal.loop-place-preserved
loop-place-preserved c =
    let sig = c.args.sig.now in
    record {
      clean = after_next (bind_tests sig) c.args.raws.now c.loop-place.place c.index-raws-place.result
          c.loop-place-test.true c.index-raws-place.is c.loop-place.invariant.clean c.in_ok-check_bind.ensures.0;
      made = made_next (bound sig) c.args.raws.now c.loop-place.place c.index-raws-place.result
          c.loop-place.entries.items c.add.new.entries.items c.loop-place-test.true c.index-raws-place.is
          c.loop-place.invariant.made (search rules);
    }
