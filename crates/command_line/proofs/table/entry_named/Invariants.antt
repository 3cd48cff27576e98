use Rattle.std.proofs.Common.{◌≢◌, take}
use Rattle.std.specs.List.{AllByRecursion}
use Rattle.command_line.proofs.Entries.{Item}
use Rattle.command_line.proofs.table.entry_named.Given as goal

abbrev pub invariant-loop-entry : goal.invariant-loop-entry
invariant-loop-entry l = AllByRecursion (λ (e : Item). l.name ≢ e.0.now) (take l.entry-index l.entries)
