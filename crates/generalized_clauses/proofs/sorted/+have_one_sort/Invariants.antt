use Rattle.std.proofs.Common.{length}
use Rattle.generalized_clauses.proofs.sorted.+have_one_sort.Given as goal

abbrev pub decreases-have_one_sort : goal.decreases-have_one_sort
decreases-have_one_sort l = length l.equations.now
