use Rattle.term_core.specs.Measure.{weight, list_weight}
use Rattle.sample_values.proofs.pool.ValuePool.+value.Given as goal

abbrev pub decreases-value : goal.decreases-value
decreases-value l = weight l.term.now

abbrev pub decreases-push_values : goal.decreases-push_values
decreases-push_values l = list_weight l.terms.now
