use Rattle.std.proofs.Common.{◌+◌, ◌≤◌, drop, length}
use Rattle.rule_code.specs.Lengths.{rules_length}
use Rattle.rule_code.specs.Programs.{AreRuleCodes}
use Rattle.rule_code.proofs.rule_codes.compile_rules.Given as goal

abbrev pub invariant-loop-number : goal.invariant-loop-number
invariant-loop-number l = record {
  codes : AreRuleCodes l.spec l.code l.number l.made.items;
  few : length l.code + rules_length (drop l.number l.spec.rules) ≤ length l.fn.code + rules_length l.spec.rules;
}
