-- Terms fall by weight.
use Rattle.term_core.specs.Measure.{weight, list_weight}
use Rattle.finder_cases.proofs.printing.+text.Given as goal

abbrev pub decreases-add_term : goal.decreases-add_term
decreases-add_term l = weight l.term.now

abbrev pub decreases-add_terms : goal.decreases-add_terms
decreases-add_terms l = list_weight l.terms.now
