use Rattle.std.proofs.Common.{◌≡◌, take, drop}
use Rattle.term_core.specs.Measure.{weight, list_weight}
use Rattle.clause_places.specs.Demand.{asked_among}
use Rattle.clause_places.proofs.demand.+asked.Given as goal

abbrev pub decreases-asked_in_term : goal.decreases-asked_in_term
decreases-asked_in_term l = weight l.term.now

abbrev pub decreases-asked_in_terms : goal.decreases-asked_in_terms
decreases-asked_in_terms l = list_weight l.terms.now

abbrev pub invariant-asked_in_terms-loop-term : goal.invariant-asked_in_terms-loop-term
invariant-asked_in_terms-loop-term l =
    take 1 (asked_among l.spec l.terms)
    ≡ take 1 (asked_among l.spec (drop l.term-index l.terms))
