use Rattle.std.proofs.Common.{◌≡◌, ◌+◌, ◌<◌, ◌≤◌, sym, subst, length}
use Rattle.std.specs.Prelude.{slice_get}
use Rattle.spec_core.specs.declared.records.Rule.{Rule}
use Rattle.rule_code.specs.declared.rule_codes.RuleCode.{RuleCode}
use Rattle.rule_code.specs.Lengths.{rule_length}
use Rattle.rule_code.specs.RuleCodes.{IsRuleCode}
use Rattle.rule_code.specs.Branches.{AreBranches}
use Rattle.rule_code.proofs.Matches.{some_same}
use Rattle.rule_code.proofs.Ranges.{item_listed}
use Rattle.rule_code.proofs.rule_codes.RuleCode.of.Goals as goal

pub of-requires : goal.of-requires
of-requires c =
    let lt : c.args.number < length c.as_slice-rules.result.now = subst (λ rs. c.args.number < length rs)
    (sym c.as_slice-rules.ensures) c.requires.listed in
    let at = item_listed c.as_slice-rules.result.now c.args.spec.now.rules c.args.number
    c.index-rules-number.result c.as_slice-rules.ensures lt c.index-rules-number.is in
    c.requires.fine.rules c.args.number c.index-rules-number.result at

pub emit_blocks-requires-clause-sorted : goal.emit_blocks-requires-clause-sorted
emit_blocks-requires-clause-sorted c =
    let lt : c.args.number < length c.as_slice-rules.result.now = subst (λ rs. c.args.number < length rs)
    (sym c.as_slice-rules.ensures) c.requires.listed in
    let at = item_listed c.as_slice-rules.result.now c.args.spec.now.rules c.args.number
    c.index-rules-number.result c.as_slice-rules.ensures lt c.index-rules-number.is in
    c.requires.fine.rules c.args.number c.index-rules-number.result at

pub returns-clause-code : goal.returns-clause-code
returns-clause-code c rule there =
    let spec = c.args.spec.now in
    let lt : c.args.number < length c.as_slice-rules.result.now = subst (λ rs. c.args.number < length rs)
    (sym c.as_slice-rules.ensures) c.requires.listed in
    let own = c.index-rules-number.result in
    let at = item_listed c.as_slice-rules.result.now spec.rules c.args.number own c.as_slice-rules.ensures lt
    c.index-rules-number.is in
    let same : own ≡ rule = some_same (slice_get spec.rules c.args.number) own rule at there in
    let made : RuleCode = record {
      left = c.in_ok-left.left;
      begins = c.in_ok-begins.begins;
      branches = c.in_ok-branches.branches;
    } in
    let code : IsRuleCode spec c.emit_blocks.new.code c.args.number own made = record {
      left = c.in_ok-left.ensures;
      blocks = c.in_ok-begins.ensures.blocks;
      branches = subst (λ rs. AreBranches rs own c.in_ok-branches.branches.items) c.as_slice-rules.ensures
          c.in_ok-branches.ensures;
    } in
    subst (λ (r : Rule). IsRuleCode spec c.emit_blocks.new.code c.args.number r made) same code

pub returns-clause-few : goal.returns-clause-few
returns-clause-few c rule there =
    let spec = c.args.spec.now in
    let lt : c.args.number < length c.as_slice-rules.result.now = subst (λ rs. c.args.number < length rs)
    (sym c.as_slice-rules.ensures) c.requires.listed in
    let own = c.index-rules-number.result in
    let at = item_listed c.as_slice-rules.result.now spec.rules c.args.number own c.as_slice-rules.ensures lt
    c.index-rules-number.is in
    let same : own ≡ rule = some_same (slice_get spec.rules c.args.number) own rule at there in
    subst (λ (r : Rule). length c.emit_blocks.new.code ≤ length c.args.code.now + rule_length r) same
    c.in_ok-begins.ensures.few
