-- Patterns fall by weight.
use Rattle.term_core.specs.Measure.{list_weight}
use Rattle.fitting_lists.proofs.becoming.+all_roots_agree.Given as goal

abbrev pub decreases-all_roots_agree : goal.decreases-all_roots_agree
decreases-all_roots_agree l = list_weight l.patterns.now
