use Rattle.std.proofs.Common.{◌≡◌, map, take}
use Rattle.term_core.specs.Measure.{weight, list_weight}
use Rattle.open_evaluation.specs.Shifted.{shifted}
use Rattle.open_evaluation.proofs.terms.+shift.Given as goal

abbrev pub decreases-shift_term : goal.decreases-shift_term
decreases-shift_term l = weight l.term.now

abbrev pub decreases-shift_terms : goal.decreases-shift_terms
decreases-shift_terms l = list_weight l.terms.now

abbrev pub invariant-shift_terms-loop-term : goal.invariant-shift_terms-loop-term
invariant-shift_terms-loop-term l = l.made ≡ map (shifted l.constructors l.constants) (take l.term-index l.terms)
