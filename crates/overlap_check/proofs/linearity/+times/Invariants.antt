use Rattle.term_core.specs.Measure.{weight, list_weight}
use Rattle.overlap_check.proofs.linearity.+times.Given as goal

abbrev pub decreases-times : goal.decreases-times
decreases-times l = weight l.term.now

abbrev pub decreases-times_in_all : goal.decreases-times_in_all
decreases-times_in_all l = list_weight l.terms.now
