use Rattle.std.proofs.Common.{◌≡◌, ◌+◌, ◌*◌, ◌-◌, ◌≤◌, false, max, length}
use Rattle.refuter.specs.Looks.{IsTally}
use Rattle.refuter.specs.Memory.{most_cells}
use Rattle.refuter.specs.Tables.{AreRightTables}
use Rattle.refuter.proofs.Through.{Through}
use Rattle.refuter.proofs.walking.Walk.+look.Given as goal

abbrev pub decreases-look : goal.decreases-look
decreases-look l = 3 * length l.sorts.now + 2

abbrev pub decreases-look_as : goal.decreases-look_as
decreases-look_as l = 3 * length l.sorts.now + 1

abbrev pub decreases-look_through : goal.decreases-look_through
decreases-look_through l = 3 * length l.others.now + 3

abbrev pub invariant-look_through-loop-more : goal.invariant-look_through-loop-more
invariant-look_through-loop-more l = record {
  walked : Through l.self.prepared.now.spec l.self.prepared.now.goal l.self.budget l.self.tries l.depth l.bound
      l.firsts l.others l.fn.bank l.bank l.fn.row.items l.row.items l.start l.fn.tally l.tally l.more;
  kept : AreRightTables l.self.prepared.now l.bank l.tables;
  tally : IsTally l.self.tries l.tally;
  few : length l.bank ≤ max (length l.fn.bank) (most_cells l.self) + l.self.bound;
  last : l.more ≡ false → length l.bank ≤ max (length l.fn.bank) (most_cells l.self);
}

abbrev pub decreases-look_through-loop-more : goal.decreases-look_through-loop-more
decreases-look_through-loop-more l = l.self.tries - l.tally.tried
