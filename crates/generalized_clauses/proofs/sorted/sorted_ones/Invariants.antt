use Rattle.std.specs.Prelude.{All}
use Rattle.clause_core.specs.Clauses.{ClauseIsSorted}
use Rattle.generalized_clauses.proofs.sorted.sorted_ones.Given as goal

abbrev pub invariant-loop-clause : goal.invariant-loop-clause
invariant-loop-clause l = All (ClauseIsSorted l.sig) l.made.items
