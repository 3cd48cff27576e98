use Rattle.term_core.specs.Measure.{weight, list_weight}
use Rattle.matching.proofs.binding.+bind.Given as goal

abbrev pub decreases-bind : goal.decreases-bind
decreases-bind l = weight l.pattern.now

abbrev pub decreases-bind_all : goal.decreases-bind_all
decreases-bind_all l = list_weight l.patterns.now
