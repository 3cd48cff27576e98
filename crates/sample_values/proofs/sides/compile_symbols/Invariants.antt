use Rattle.std.proofs.Common.{◌≡◌, length}
use Rattle.sample_values.specs.Evaluators.{AreSides}
use Rattle.sample_values.proofs.sides.compile_symbols.Given as goal

abbrev pub invariant-loop-number : goal.invariant-loop-number
invariant-loop-number l = record {
  spec : l.machine.spec ≡ l.spec;
  sides : AreSides l.machine l.sides.items;
  count : length l.sides.items ≡ l.number;
}
