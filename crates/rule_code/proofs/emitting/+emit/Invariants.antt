use Rattle.term_core.specs.Measure.{weight, list_weight}
use Rattle.rule_code.proofs.emitting.+emit.Given as goal

abbrev pub decreases-emit : goal.decreases-emit
decreases-emit l = weight l.term.now

abbrev pub decreases-emit_all : goal.decreases-emit_all
decreases-emit_all l = list_weight l.terms.now
