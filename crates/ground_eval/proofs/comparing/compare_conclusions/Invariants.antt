use Rattle.std.proofs.Common.{◌+◌, ◌≤◌, List, take, length}
use Rattle.std.specs.List.{AllByRecursion}
use Rattle.term_core.specs.Tree.{Tree}
use Rattle.spec_core.specs.declared.records.Equation.{Equation}
use Rattle.spec_core.specs.Verdict.{SidesDiffer}
use Rattle.value_bank.specs.Cells.{AddsCells}
use Rattle.bank_machine.specs.KeptCalls.{AreRight}
use Rattle.ground_eval.specs.Looked.{most_compared}
use Rattle.ground_eval.specs.Trials.{CanTry}
use Rattle.ground_eval.proofs.comparing.compare_conclusions.Given as goal

abbrev pub invariant-loop-conclusion : goal.invariant-loop-conclusion
invariant-loop-conclusion l = record {
  differ : (es : List Equation) (terms : List Tree) →
      CanTry l.trial l.fn.bank l.conclusions es terms →
      AllByRecursion (SidesDiffer l.trial.machine.now.spec terms l.trial.budget) (take l.conclusion-index es);
  adds : AddsCells l.fn.bank l.bank;
  kept : AreRight l.trial.machine.now.spec l.bank l.kept;
  few : length l.bank ≤ length l.fn.bank + most_compared l.trial.machine.now l.conclusion-index l.trial.budget;
}
