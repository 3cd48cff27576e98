use Rattle.term_core.specs.Measure.{weight, list_weight}
use Rattle.cond_rewrite.proofs.instances.+is_instance.Given as goal

abbrev pub decreases-is_instance : goal.decreases-is_instance
decreases-is_instance l = weight l.pattern.now

abbrev pub decreases-are_instances : goal.decreases-are_instances
decreases-are_instances l = list_weight l.patterns.now
