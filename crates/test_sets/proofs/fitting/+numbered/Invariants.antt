use Rattle.term_core.specs.Measure.{weight, list_weight}
use Rattle.test_sets.proofs.fitting.+numbered.Given as goal

abbrev pub decreases-numbered : goal.decreases-numbered
decreases-numbered l = weight l.pattern.now

abbrev pub decreases-all_numbered : goal.decreases-all_numbered
decreases-all_numbered l = list_weight l.patterns.now
