use Rattle.std.proofs.Common.{◌+◌, ◌≤◌, drop, length}
use Rattle.rule_code.specs.Blocks.{AddsCode}
use Rattle.rule_code.specs.Lengths.{tests_length}
use Rattle.rule_code.proofs.Placed.{HaveFirst}
use Rattle.rule_code.proofs.blocks.emit_blocks.Given as goal

abbrev pub invariant-loop-asked : goal.invariant-loop-asked
invariant-loop-asked l = record {
  blocks : HaveFirst l.sig l.number l.rule l.left l.code l.begins.items l.asked;
  adds : AddsCode l.fn.code l.code;
  few : length l.code + tests_length (drop l.asked l.rule.guards) ≤ length l.fn.code + tests_length l.rule.guards;
}
