use Rattle.std.proofs.Common.{◌+◌, ◌≤◌, take, drop, length}
use Rattle.term_core.specs.Tree.{trees_of, sizes}
use Rattle.value_bank.specs.Cells.{AddsCells}
use Rattle.bank_machine.specs.Runs.{StandAt}
use Rattle.ground_eval.proofs.prepared.place_values.Given as goal

abbrev pub invariant-loop-value : goal.invariant-loop-value
invariant-loop-value l = record {
  stand : StandAt l.bank l.ids.items (take l.value-index l.values);
  adds : AddsCells l.fn.bank l.bank;
  few : length l.bank + sizes (trees_of (drop l.value-index l.values)) ≤ length l.fn.bank + sizes (trees_of l.values);
}
