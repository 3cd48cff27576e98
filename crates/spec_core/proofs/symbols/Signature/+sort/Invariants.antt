use Rattle.term_core.specs.Measure.{weight, list_weight}
use Rattle.spec_core.proofs.symbols.Signature.+sort.Given as goal

abbrev pub decreases-sort_of : goal.decreases-sort_of
decreases-sort_of l = weight l.term.now

abbrev pub decreases-are_sorted : goal.decreases-are_sorted
decreases-are_sorted l = list_weight l.terms.now
