use Rattle.term_core.specs.Measure.{weight, list_weight}
use Rattle.clause_places.proofs.walk.+pass.Given as goal

abbrev pub decreases-pass_term : goal.decreases-pass_term
decreases-pass_term l = weight l.term.now

abbrev pub decreases-pass_arguments : goal.decreases-pass_arguments
decreases-pass_arguments l = list_weight l.terms.now
