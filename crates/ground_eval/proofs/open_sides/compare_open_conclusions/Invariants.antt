use Rattle.std.proofs.Common.{◌+◌, ◌≤◌, List, take, length}
use Rattle.std.specs.List.{AllByRecursion}
use Rattle.spec_core.specs.declared.records.Equation.{Equation}
use Rattle.value_bank.specs.Cells.{AddsCells}
use Rattle.bank_machine.specs.KeptCalls.{AreRight}
use Rattle.ground_eval.specs.Constants.{AreMarks}
use Rattle.ground_eval.specs.Looked.{most_compared}
use Rattle.ground_eval.specs.OpenSides.{Setting, IsSet}
use Rattle.ground_eval.specs.Trials.{CanTryOpen}
use Rattle.ground_eval.proofs.OpenWalking.{Apart}
use Rattle.ground_eval.proofs.open_sides.compare_open_conclusions.Given as goal

abbrev pub invariant-loop-conclusion : goal.invariant-loop-conclusion
invariant-loop-conclusion l = record {
  differ : (s : Setting) (es : List Equation) → IsSet s l.trial.machine.now l.constants →
      CanTryOpen l.trial l.fn.bank l.conclusions es s →
      AllByRecursion (Apart s l.trial.budget) (take l.conclusion-index es);
  adds : AddsCells l.fn.bank l.bank;
  kept : AreRight l.trial.machine.now.spec l.bank l.kept;
  marks : AreMarks l.constants.from l.constants.to l.bank l.marks.marks.items;
  few : length l.bank ≤ length l.fn.bank + most_compared l.trial.machine.now l.conclusion-index l.trial.budget;
}
