use Rattle.std.proofs.Common.{length}
use Rattle.generalized_clauses.proofs.sorted.+are_sorts.Given as goal

abbrev pub decreases-are_sorts : goal.decreases-are_sorts
decreases-are_sorts l = length l.sorts.now
