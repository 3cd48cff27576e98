use Rattle.term_core.specs.Measure.{weight, list_weight}
use Rattle.test_sets.proofs.patterns.+push_sorts.Given as goal

abbrev pub decreases-push_sorts : goal.decreases-push_sorts
decreases-push_sorts l = weight l.pattern.now

abbrev pub decreases-push_all_sorts : goal.decreases-push_all_sorts
decreases-push_all_sorts l = list_weight l.patterns.now
