use Rattle.std.proofs.Common.{rules, ◌≡◌, Err}
use Rattle.spec_core.specs.Findings.{each}
use Rattle.spec_core.proofs.Findings.{each_next, each_end}
use Rattle.sort_check.specs.Answers.{Tells}
use Rattle.sort_check.specs.RuleTests.{guard_tests}
use Rattle.sort_check.specs.Over.{IsGuardOver}
use Rattle.sort_check.proofs.Telling.{answer_err, each_tells}
use Rattle.sort_check.proofs.Pairs.{pairs_next, pairs_end}
use Rattle.sort_check.proofs.GuardFacts.{guard_over, guard_fault}
use Rattle.sort_check.proofs.walk.Walk.guards.Goals as goal

pub returns-in_err-test-clause-answer : goal.returns-in_err-test-clause-answer
returns-in_err-test-clause-answer c =
    let sig = c.args.self.now.sig.now in
    let es = c.args.entries.now.items in
    let e = c.in_err-test.field-0.0 in
    let q : c.from_residual.result ≡ Err e = search rules in
    let here : Tells (guard_tests sig es c.raw-item.result) e = guard_fault sig c.args.self.now.part es
    c.loop-raw.entries.items c.raw-item.result e c.requires.part c.loop-raw.invariant.same
    c.in_err-test.ensures.answer in
    answer_err (each (guard_tests sig es) c.args.raws.now) _ c.from_residual.result e q
    (each_tells (guard_tests sig es) c.args.raws.now c.loop-raw.raw-index c.raw-item.result e
    c.loop-raw-test.true c.raw-item.is c.loop-raw.invariant.clean here)

pub loop-raw-preserved : goal.loop-raw-preserved
loop-raw-preserved c =
    let sig = c.args.self.now.sig.now in
    let es = c.args.entries.now.items in
    let h = guard_over sig c.args.self.now.part es c.loop-raw.entries.items c.term.new.entries.items
    c.raw-item.result c.in_ok-test.test c.requires.part c.requires.sorted c.loop-raw.invariant.same
    c.in_ok-test.ensures.answer in
    record {
      same = h.1.0;
      clean = each_next (guard_tests sig es) c.args.raws.now c.loop-raw.raw-index c.raw-item.result
          c.loop-raw-test.true c.raw-item.is c.loop-raw.invariant.clean h.0;
      made = pairs_next (IsGuardOver sig es) c.args.raws.now c.loop-raw.raw-index c.raw-item.result
          c.loop-raw.made c.push.new.self
          (record { test = c.in_ok-test.test; wanted = c.raw-item.result.wanted }) c.loop-raw-test.true
          c.raw-item.is c.loop-raw.invariant.made h.1.1 (search rules);
    }

pub returns-clause-answer : goal.returns-clause-answer
returns-clause-answer c =
    let sig = c.args.self.now.sig.now in
    let es = c.args.entries.now.items in (
      each_end (guard_tests sig es) c.args.raws.now c.loop-raw.raw-index c.loop-raw-test.false
          c.loop-raw.invariant.clean,
      (
        c.loop-raw.invariant.same,
        pairs_end (IsGuardOver sig es) c.args.raws.now c.loop-raw.raw-index c.loop-raw.made
            c.loop-raw-test.false c.loop-raw.invariant.made,
      ),
    )
