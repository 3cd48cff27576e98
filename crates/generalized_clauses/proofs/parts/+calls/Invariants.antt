use Rattle.term_core.specs.Measure.{weight, list_weight}
use Rattle.generalized_clauses.proofs.parts.+calls.Given as goal

abbrev pub decreases-calls : goal.decreases-calls
decreases-calls l = weight l.term.now

abbrev pub decreases-some_calls : goal.decreases-some_calls
decreases-some_calls l = list_weight l.terms.now
