use Rattle.bank_machine.specs.KeptCalls.{HaveNoValues}
use Rattle.bank_machine.proofs.kept_calls.no_calls.Given as goal

abbrev pub invariant-loop : goal.invariant-loop
invariant-loop l = HaveNoValues l.made.items
