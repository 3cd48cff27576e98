use Rattle.term_core.specs.Measure.{weight, list_weight}
use Rattle.open_goals.proofs.near.+gap.Given as goal

abbrev pub decreases-gap_in_term : goal.decreases-gap_in_term
decreases-gap_in_term g l = weight l.term.now

abbrev pub decreases-gap_in_terms : goal.decreases-gap_in_terms
decreases-gap_in_terms g l = list_weight l.terms.now
