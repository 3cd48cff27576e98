use Rattle.term_core.specs.Measure.{weight, list_weight}
use Rattle.clause_places.proofs.calls.+calls.Given as goal

abbrev pub decreases-call_in : goal.decreases-call_in
decreases-call_in l = weight l.term.now

abbrev pub decreases-call_in_arguments : goal.decreases-call_in_arguments
decreases-call_in_arguments l = list_weight l.arguments.now
