use Rattle.term_core.specs.Measure.{weight, list_weight}
use Rattle.node_names.proofs.sorts.+add_sorts.Given as goal

abbrev pub decreases-add_sorts : goal.decreases-add_sorts
decreases-add_sorts l = weight l.pattern.now

abbrev pub decreases-add_all_sorts : goal.decreases-add_all_sorts
decreases-add_all_sorts l = list_weight l.patterns.now
