use Rattle.std.proofs.Common.{length}
use Rattle.search_cases.proofs.values.+are_values.Given as goal

abbrev pub decreases-are_values : goal.decreases-are_values
decreases-are_values l = length l.vars.now
