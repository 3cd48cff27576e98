use Rattle.std.proofs.Common.{◌≡◌, ap, subst, length, arith}
use Rattle.rule_code.specs.Blocks.{AddsBlock}
use Rattle.rule_code.specs.Compiled.{IsBody}
use Rattle.rule_code.proofs.Lengths.{body_length, test_length, next_test}
use Rattle.rule_code.proofs.Ranges.{item_listed, test_symbols, test_variables, right_symbols, right_variables}
use Rattle.rule_code.proofs.Placed.{adds_both, block_adds, test_added, right_added}
use Rattle.rule_code.proofs.blocks.emit_blocks.Goals as goal

pub emit_test-requires-clause-symbols : goal.emit_test-requires-clause-symbols
emit_test-requires-clause-symbols c =
    let at = item_listed c.as_slice-guards.result.now c.args.rule.now.guards c.loop-asked.asked
    c.index-guards-asked.result c.as_slice-guards.ensures c.loop-asked-test.true c.index-guards-asked.is in
    test_symbols c.args.sig.now c.args.rule.now c.requires.sorted c.loop-asked.asked c.index-guards-asked.result at

pub emit_test-requires-clause-variables : goal.emit_test-requires-clause-variables
emit_test-requires-clause-variables c n o =
    let at = item_listed c.as_slice-guards.result.now c.args.rule.now.guards c.loop-asked.asked
    c.index-guards-asked.result c.as_slice-guards.ensures c.loop-asked-test.true c.index-guards-asked.is in
    omega (
      arith,
      test_variables c.args.sig.now c.args.rule.now c.requires.sorted c.loop-asked.asked
          c.index-guards-asked.result at n o,
      c.requires.left.homes.counted,
    )

pub loop-asked-preserved : goal.loop-asked-preserved
loop-asked-preserved c =
    let at = item_listed c.as_slice-guards.result.now c.args.rule.now.guards c.loop-asked.asked
    c.index-guards-asked.result c.as_slice-guards.ensures c.loop-asked-test.true c.index-guards-asked.is in
    record {
      blocks = test_added c.args.sig.now c.args.number c.args.rule.now c.args.left.now c.loop-asked.code
          c.emit_test.new.code c.loop-asked.begins.items c.push.new.self.items c.len.result c.loop-asked.asked
          c.index-guards-asked.result c.len.ensures c.in_ok-push.ensures.items at c.loop-asked.invariant.blocks
          c.in_ok-emit_test.ensures;
      adds = adds_both c.args.code.now c.loop-asked.code c.emit_test.new.code c.loop-asked.invariant.adds
          (block_adds c.loop-asked.code c.emit_test.new.code c.in_ok-emit_test.ensures);
      few = next_test c.args.rule.now.guards c.loop-asked.asked c.index-guards-asked.result
          (length c.args.code.now) (length c.loop-asked.code) (length c.emit_test.new.code)
          at c.loop-asked.invariant.few
          (test_length c.args.sig.now c.args.left.now c.index-guards-asked.result.test c.args.number
          c.loop-asked.asked c.loop-asked.code c.emit_test.new.code c.in_ok-emit_test.ensures);
    }

pub emit_body-requires-clause-symbols : goal.emit_body-requires-clause-symbols
emit_body-requires-clause-symbols c = right_symbols c.args.sig.now c.args.rule.now c.requires.sorted

pub emit_body-requires-clause-variables : goal.emit_body-requires-clause-variables
emit_body-requires-clause-variables c n o = omega (
  arith,
  right_variables c.args.sig.now c.args.rule.now c.requires.sorted n o,
  c.requires.left.homes.counted,
  ap length c.deref.ensures.value,
)

pub returns-clause-blocks : goal.returns-clause-blocks
returns-clause-blocks c =
    let all : c.loop-asked.asked ≡ length c.args.rule.now.guards = omega (
      arith,
      c.loop-asked-test.false,
      c.loop-asked.auto.asked-end,
      ap length c.as_slice-guards.ensures,
    ) in
    right_added c.args.sig.now c.args.number c.args.rule.now c.args.left.now c.loop-asked.code
    c.emit_body.new.code c.loop-asked.begins.items c.push-2.new.self.items c.len-2.result c.loop-asked.asked
    c.len-2.ensures c.in_ok-push-2.ensures.items all c.loop-asked.invariant.blocks
    (subst (λ hs. AddsBlock c.loop-asked.code c.emit_body.new.code
    (IsBody c.args.sig.now hs c.args.rule.now.right c.args.left.now.width)) c.deref.ensures.value
    c.in_ok-emit_body.ensures)

pub returns-clause-few : goal.returns-clause-few
returns-clause-few c = omega (
  arith,
  c.loop-asked.invariant.few,
  body_length c.args.sig.now c.deref.result.now c.args.rule.now.right c.args.left.now.width c.loop-asked.code
      c.emit_body.new.code c.in_ok-emit_body.ensures,
)
