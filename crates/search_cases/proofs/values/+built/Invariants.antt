use Rattle.term_core.specs.Measure.{weight, list_weight}
use Rattle.search_cases.proofs.values.+built.Given as goal

abbrev pub decreases-is_built : goal.decreases-is_built
decreases-is_built l = weight l.term.now

abbrev pub decreases-are_built : goal.decreases-are_built
decreases-are_built l = list_weight l.terms.now
