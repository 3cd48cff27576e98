use Rattle.term_core.specs.Measure.{weight, list_weight}
use Rattle.term_core.proofs.tree.+same.Given as goal

abbrev pub decreases-Term::same : goal.decreases-Term::same
decreases-Term::same l = weight l.self.now

abbrev pub decreases-same_all : goal.decreases-same_all
decreases-same_all l = list_weight l.xs.now
