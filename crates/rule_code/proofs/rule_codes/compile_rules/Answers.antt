use Rattle.std.proofs.Common.{arith, length}
use Rattle.rule_code.proofs.Grown.{rule_code_added}
use Rattle.rule_code.proofs.Lengths.{next_rule}
use Rattle.rule_code.proofs.rule_codes.compile_rules.Goals as goal

pub loop-number-preserved : goal.loop-number-preserved
loop-number-preserved c =
    record {
      codes = rule_code_added c.args.spec.now c.loop-number.code c.of.new.code c.loop-number.number
          c.loop-number.made.items c.push.new.self.items c.in_ok-of.field-0 c.in_ok-of.ensures.adds
          c.loop-number.invariant.codes c.in_ok-push.ensures.items c.in_ok-of.ensures.code;
      few = next_rule c.args.spec.now.rules c.loop-number.number (length c.args.code.now)
          (length c.loop-number.code) (length c.of.new.code)
          (omega (arith, c.loop-number-test.true, c.len-count.ensures)) c.loop-number.invariant.few
          (λ r at. omega (arith, c.in_ok-of.ensures.few r at));
    }

pub returns-clause-few : goal.returns-clause-few
returns-clause-few c = omega (arith, c.loop-number.invariant.few)
