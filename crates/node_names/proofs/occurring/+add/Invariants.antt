use Rattle.term_core.specs.Measure.{weight, list_weight}
use Rattle.node_names.proofs.occurring.+add.Given as goal

abbrev pub decreases-add : goal.decreases-add
decreases-add l = weight l.term.now

abbrev pub decreases-add_all : goal.decreases-add_all
decreases-add_all l = list_weight l.terms.now
