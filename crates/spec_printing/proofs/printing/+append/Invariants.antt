use Rattle.spec_grammar.specs.RawMeasure.{weight, list_weight}
use Rattle.spec_printing.proofs.printing.+append.Given as goal

abbrev pub decreases-append_term : goal.decreases-append_term
decreases-append_term l = weight l.term.now

abbrev pub decreases-append_others : goal.decreases-append_others
decreases-append_others l = list_weight l.terms.now
