use Rattle.std.proofs.Common.{◌≡◌}
use Rattle.spec_printing.specs.Printed.{printed}
use Rattle.load_text.specs.LoadRaw.{load_raw}
use Rattle.load_text.proofs.text.generated.Given as goal

abbrev pub invariant-loop-number : goal.invariant-loop-number
invariant-loop-number l = l.text.items ≡ printed (load_raw l.number)
