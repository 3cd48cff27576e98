use Rattle.term_core.specs.Measure.{weight, list_weight}
use Rattle.generalized_clauses.proofs.parts.+add.Given as goal

abbrev pub decreases-add_below : goal.decreases-add_below
decreases-add_below l = weight l.term.now

abbrev pub decreases-add_all : goal.decreases-add_all
decreases-add_all l = list_weight l.terms.now
