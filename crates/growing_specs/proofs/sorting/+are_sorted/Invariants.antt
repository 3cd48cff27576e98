use Rattle.std.proofs.Common.{length}
use Rattle.growing_specs.proofs.sorting.+are_sorted.Given as goal

abbrev pub decreases-are_sorted : goal.decreases-are_sorted
decreases-are_sorted l = length l.equations.now
