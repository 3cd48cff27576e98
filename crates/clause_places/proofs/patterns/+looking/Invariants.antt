use Rattle.term_core.specs.Measure.{weight, list_weight}
use Rattle.clause_places.proofs.LookedAt.{IsLeft}
use Rattle.clause_places.proofs.patterns.+looking.Given as goal

abbrev pub decreases-looked_at_in_term : goal.decreases-looked_at_in_term
decreases-looked_at_in_term l = weight l.term.now

abbrev pub decreases-looked_at_in_terms : goal.decreases-looked_at_in_terms
decreases-looked_at_in_terms l = list_weight l.terms.now

abbrev pub invariant-looked_at_in_terms-loop-index : goal.invariant-looked_at_in_terms-loop-index
invariant-looked_at_in_terms-loop-index l = IsLeft l.sig l.patterns l.terms l.index
