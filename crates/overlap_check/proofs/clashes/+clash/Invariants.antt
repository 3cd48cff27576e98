use Rattle.term_core.specs.Measure.{weight, list_weight}
use Rattle.overlap_check.proofs.clashes.+clash.Given as goal

abbrev pub decreases-clash : goal.decreases-clash
decreases-clash l = weight l.left.now

abbrev pub decreases-clash_in_any : goal.decreases-clash_in_any
decreases-clash_in_any l = list_weight l.left.now
