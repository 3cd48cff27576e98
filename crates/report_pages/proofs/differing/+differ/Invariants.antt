use Rattle.term_core.specs.Measure.{weight, list_weight}
use Rattle.report_pages.proofs.differing.+differ.Given as goal

abbrev pub decreases-push_difference : goal.decreases-push_difference
decreases-push_difference l = weight l.left.now

abbrev pub decreases-push_difference_from : goal.decreases-push_difference_from
decreases-push_difference_from l = list_weight l.lefts.now
