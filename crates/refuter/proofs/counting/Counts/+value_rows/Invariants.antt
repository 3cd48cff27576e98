use Rattle.std.proofs.Common.{length}
use Rattle.refuter.proofs.counting.Counts.+value_rows.Given as goal

abbrev pub decreases-value_rows : goal.decreases-value_rows
decreases-value_rows l = length l.sorts.now
