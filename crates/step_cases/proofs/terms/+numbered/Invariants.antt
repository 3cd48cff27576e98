use Rattle.spec_grammar.specs.RawMeasure.{weight, list_weight}
use Rattle.step_cases.proofs.terms.+numbered.Given as goal

abbrev pub decreases-numbered : goal.decreases-numbered
decreases-numbered l = weight l.raw.now

abbrev pub decreases-push_numbered : goal.decreases-push_numbered
decreases-push_numbered l = list_weight l.raws.now
