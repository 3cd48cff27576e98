use Rattle.term_core.specs.Measure.{weight, list_weight}
use Rattle.generalized_clauses.proofs.renaming.Renaming.+renaming.Given as goal

abbrev pub decreases-term : goal.decreases-term
decreases-term l = weight l.term.now

abbrev pub decreases-terms : goal.decreases-terms
decreases-terms l = list_weight l.terms.now
