use Rattle.spec_grammar.specs.RawMeasure.{weight, list_weight}
use Rattle.sort_check.proofs.rules.+size.Given as goal

abbrev pub decreases-size : goal.decreases-size
decreases-size l = weight l.raw.now

abbrev pub decreases-size_all : goal.decreases-size_all
decreases-size_all l = list_weight l.raws.now
