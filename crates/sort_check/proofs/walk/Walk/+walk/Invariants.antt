use Rattle.spec_grammar.specs.RawMeasure.{weight, list_weight}
use Rattle.sort_check.proofs.walk.Walk.+walk.Given as goal

abbrev pub decreases-term : goal.decreases-term
decreases-term l = weight l.raw.now

abbrev pub decreases-terms : goal.decreases-terms
decreases-terms l = list_weight l.raws.now
