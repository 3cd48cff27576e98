use Rattle.term_core.specs.Measure.{weight, list_weight}
use Rattle.generalized_clauses.proofs.occurrences.+occurrences.Given as goal

abbrev pub decreases-add_term : goal.decreases-add_term
decreases-add_term l = weight l.term.now

abbrev pub decreases-add_below : goal.decreases-add_below
decreases-add_below l = list_weight l.terms.now
