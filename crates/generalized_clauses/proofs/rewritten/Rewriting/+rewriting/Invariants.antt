use Rattle.term_core.specs.Measure.{weight, list_weight}
use Rattle.generalized_clauses.proofs.rewritten.Rewriting.+rewriting.Given as goal

abbrev pub decreases-terms : goal.decreases-terms
decreases-terms l = weight l.term.now

abbrev pub decreases-applications : goal.decreases-applications
decreases-applications l = list_weight l.args.now
