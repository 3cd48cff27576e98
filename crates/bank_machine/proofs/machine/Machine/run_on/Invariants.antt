use Rattle.value_bank.specs.Cells.{AddsCells}
use Rattle.bank_machine.specs.Fuel.{fuel}
use Rattle.bank_machine.specs.KeptCalls.{AreRight}
use Rattle.bank_machine.specs.Stacks.{shown}
use Rattle.bank_machine.proofs.RunsOn.{HaveRun, HasAddedFew}
use Rattle.bank_machine.proofs.machine.Machine.run_on.Given as goal

abbrev pub decreases-moves : goal.decreases-moves
decreases-moves l = fuel l.self (shown l.stack) l.left

abbrev pub invariant-moves : goal.invariant-moves
invariant-moves l = record {
  runs : HaveRun l.self l.fn.bank l.bank (shown l.fn.stack) (shown l.stack) l.budget l.left;
  adds : AddsCells l.fn.bank l.bank;
  kept : AreRight l.self.spec l.bank l.kept;
  few : HasAddedFew l.self l.fn.bank l.bank (shown l.fn.stack) (shown l.stack) l.budget l.left;
}
