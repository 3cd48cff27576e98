use Rattle.std.proofs.Common.{◌≡◌, ◌+◌, ◌*◌, ◌≤◌, length}
use Rattle.std.specs.Prelude.{slice_get}
use Rattle.value_bank.specs.Cells.{AddsCells}
use Rattle.refuter.specs.After.{made_from}
use Rattle.refuter.proofs.odometer.Odometer.+first.Given as goal

abbrev pub decreases-push_first : goal.decreases-push_first
decreases-push_first l = 10 * l.depth + length l.sorts.now + 1

abbrev pub decreases-first_value : goal.decreases-first_value
decreases-first_value l = 10 * l.depth + 1

abbrev pub decreases-first_made : goal.decreases-first_made
decreases-first_made l = 10 * l.depth + 10

abbrev pub invariant-first_made-loop-number : goal.invariant-first_made-loop-number
invariant-first_made-loop-number l = record {
  first : slice_get (made_from l.self l.depth l.sort l.bound l.number) 0 ≡ slice_get
      (made_from l.self l.depth l.sort l.bound l.from) 0;
  same : l.row.items ≡ l.fn.row.items;
  adds : AddsCells l.fn.bank l.bank;
  few : length l.bank ≤ length l.fn.bank;
}
