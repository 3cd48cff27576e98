use Rattle.std.proofs.Common.{inl, inr, arith}
use Rattle.term_core.proofs.Items.{drop_past}
use Rattle.value_bank.proofs.Placed.{term_within}
use Rattle.rule_code.specs.Matching.{test}
use Rattle.rule_code.proofs.Testing.{passing_here, passing_ends, tested_place, test_passed, test_failed, slot_within}
use Rattle.rule_code.proofs.Testing.{slot_read, extends_more, extends_length}
use Rattle.rule_code.proofs.matching.pass.Goals as goal
use Rattle.rule_code.proofs.matching.pass.Goals.{then-sym-test-via-then-sym-test}
use Rattle.rule_code.proofs.matching.pass.Goals.{then-sym-test-via-else-sym-test+then-args-test}

pub overflow_add-base : goal.overflow_add-base
overflow_add-base c =
    let q = c.requires in
    let h = passing_here c.args.bank.now c.args.base c.args.places.now.items c.loop-test.places.items
    c.args.tests.now c.loop-test.test-index (test 0 0 0) c.loop-test.invariant.passing c.loop-test-test.true
    q.0 q.1 q.2 q.3 q.5 q.6 in
    omega (
      arith,
      slot_within (tested_place c.args.bank.now c.args.base c.loop-test.places.items q.0
          c.args.tests.now _ _ q.2 h),
      c.loop-test.places.small,
      c.loop-test.places.ok,
    )

pub index-place-requires : goal.index-place-requires
index-place-requires c =
    let q = c.requires in
    let h = passing_here c.args.bank.now c.args.base c.args.places.now.items c.loop-test.places.items
    c.args.tests.now c.loop-test.test-index (test 0 0 0) c.loop-test.invariant.passing c.loop-test-test.true
    q.0 q.1 q.2 q.3 q.5 q.6 in
    omega (
      arith,
      slot_within (tested_place c.args.bank.now c.args.base c.loop-test.places.items q.0
          c.args.tests.now _ _ q.2 h),
      c.loop-test.places.ok,
    )

pub cell-sym-requires : goal.cell-sym-requires
cell-sym-requires c =
    let q = c.requires in
    let h = passing_here c.args.bank.now c.args.base c.args.places.now.items c.loop-test.places.items
    c.args.tests.now c.loop-test.test-index (test 0 0 0) c.loop-test.invariant.passing c.loop-test-test.true
    q.0 q.1 q.2 q.3 q.5 q.6 in
    let s = tested_place c.args.bank.now c.args.base c.loop-test.places.items q.0 c.args.tests.now _ _ q.2 h in
    term_within c.args.bank.now c.index-place.result.now _ (slot_read s c.index-place.result.now c.index-place.ensures)

pub returns-then-sym-test : goal.returns-then-sym-test
returns-then-sym-test c =
    record {
      extends = c.loop-test.invariant.extends;
      by = λ env pats all o terms n.
          let h = passing_here c.args.bank.now c.args.base c.args.places.now.items c.loop-test.places.items
          c.args.tests.now c.loop-test.test-index (test 0 0 0) c.loop-test.invariant.passing
          c.loop-test-test.true env pats all o terms n in
          test_failed c.args.bank.now c.args.base c.loop-test.places.items env c.args.tests.now _ _ all h
          c.index-place.result.now c.cell-sym.result.0 c.cell-sym.result.1.now c.index-place.ensures
          c.cell-sym.ensures
          (elim c.then-sym-test.branch [
            | then-sym-test-via-then-sym-test w ↦ inl w.if-sym-test.true
            | then-sym-test-via-else-sym-test+then-args-test w ↦ inr w.if-args-test.true
          ]);
    }

pub loop-test-preserved : goal.loop-test-preserved
loop-test-preserved c =
    record {
      extends = extends_more c.args.places.now.items c.loop-test.places.items c.extend_from_slice.new.self.items
          c.cell-sym.result.1.now c.loop-test.invariant.extends c.in_ok-extend_from_slice.ensures.items;
      passing = λ env pats all o terms n.
          let h = passing_here c.args.bank.now c.args.base c.args.places.now.items c.loop-test.places.items
          c.args.tests.now c.loop-test.test-index (test 0 0 0) c.loop-test.invariant.passing
          c.loop-test-test.true env pats all o terms n in
          test_passed c.args.bank.now c.args.base c.loop-test.places.items env c.args.tests.now _ _ all h
          c.index-place.result.now c.cell-sym.result.0 c.cell-sym.result.1.now c.index-place.ensures
          c.cell-sym.ensures c.if-sym-test.false c.if-args-test.false c.extend_from_slice.new.self.items
          c.in_ok-extend_from_slice.ensures.items
          (omega (
            arith,
            c.requires.4,
            extends_length c.args.places.now.items c.loop-test.places.items c.loop-test.invariant.extends,
          ));
    }

pub returns : goal.returns
returns c =
    record {
      extends = c.loop-test.invariant.extends;
      by = λ env pats all o terms n. passing_ends c.args.bank.now c.args.base c.loop-test.places.items env
          c.args.tests.now _ all
          (drop_past c.args.tests.now c.loop-test.test-index (omega (arith, c.loop-test-test.false)))
          (c.loop-test.invariant.passing env pats all o terms n);
    }
