use Rattle.std.proofs.Common.{◌≡◌, ◌+◌, ◌≤◌, take, drop, length}
use Rattle.rule_code.specs.Blocks.{AddsCode}
use Rattle.ground_eval.specs.Prepared.{HaveCode, sides_length}
use Rattle.ground_eval.proofs.prepared.compile_sides.Given as goal

abbrev pub invariant-loop-equation : goal.invariant-loop-equation
invariant-loop-equation l = record {
  code : HaveCode l.machine l.variables (take l.equation-index l.equations) l.pairs.items;
  spec : l.machine.spec ≡ l.fn.machine.spec;
  adds : AddsCode l.fn.machine.code l.machine.code;
  few : length l.machine.code + sides_length (drop l.equation-index l.equations) ≤ length l.fn.machine.code +
      sides_length l.equations;
}
