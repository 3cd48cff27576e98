-- Patterns fall by weight.
use Rattle.term_core.specs.Measure.{weight, list_weight}
use Rattle.fitting_lists.proofs.becoming.+may_become.Given as goal

abbrev pub decreases-may_become : goal.decreases-may_become
decreases-may_become l = weight l.pattern.now

abbrev pub decreases-may_become_all : goal.decreases-may_become_all
decreases-may_become_all l = list_weight l.patterns.now
