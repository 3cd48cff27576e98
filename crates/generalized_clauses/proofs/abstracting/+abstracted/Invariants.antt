use Rattle.term_core.specs.Measure.{weight, list_weight}
use Rattle.generalized_clauses.proofs.abstracting.+abstracted.Given as goal

abbrev pub decreases-abstracted_term : goal.decreases-abstracted_term
decreases-abstracted_term l = weight l.whole.now

abbrev pub decreases-abstracted_terms : goal.decreases-abstracted_terms
decreases-abstracted_terms l = list_weight l.terms.now
