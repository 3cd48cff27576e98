use Rattle.std.proofs.Common.{◌≡◌}
use Rattle.rule_code.specs.Programs.{first_numbers}
use Rattle.bank_machine.proofs.machine.first_numbers.Given as goal

abbrev pub invariant-loop-number : goal.invariant-loop-number
invariant-loop-number l = l.made.items ≡ first_numbers l.number
