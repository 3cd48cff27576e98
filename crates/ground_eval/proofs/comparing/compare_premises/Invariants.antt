use Rattle.std.proofs.Common.{◌+◌, ◌≤◌, List, take, length}
use Rattle.std.specs.List.{AllByRecursion}
use Rattle.term_core.specs.Tree.{Tree}
use Rattle.spec_core.specs.declared.records.Equation.{Equation}
use Rattle.spec_core.specs.Verdict.{SidesSame}
use Rattle.value_bank.specs.Cells.{AddsCells}
use Rattle.bank_machine.specs.KeptCalls.{AreRight}
use Rattle.ground_eval.specs.Looked.{most_compared}
use Rattle.ground_eval.specs.Trials.{CanTry}
use Rattle.ground_eval.proofs.comparing.compare_premises.Given as goal

abbrev pub invariant-loop-premise : goal.invariant-loop-premise
invariant-loop-premise l = record {
  same : (es : List Equation) (terms : List Tree) →
      CanTry l.trial l.fn.bank l.premises es terms →
      AllByRecursion (SidesSame l.trial.machine.now.spec terms l.trial.budget) (take l.premise-index es);
  adds : AddsCells l.fn.bank l.bank;
  kept : AreRight l.trial.machine.now.spec l.bank l.kept;
  few : length l.bank ≤ length l.fn.bank + most_compared l.trial.machine.now l.premise-index l.trial.budget;
}
