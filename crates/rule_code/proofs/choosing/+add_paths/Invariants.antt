use Rattle.term_core.specs.Measure.{list_weight}
use Rattle.rule_code.proofs.choosing.+add_paths.Given as goal

abbrev pub decreases-add_paths : goal.decreases-add_paths
decreases-add_paths l = list_weight l.terms.now
