use Rattle.std.proofs.Common.{◌≡◌, ◌++◌, take}
use Rattle.std.specs.List.{flat_map}
use Rattle.term_core.specs.Measure.{weight, list_weight}
use Rattle.clause_places.specs.Listed.{subterms}
use Rattle.clause_places.proofs.terms.+add.Given as goal

abbrev pub decreases-add_term : goal.decreases-add_term
decreases-add_term l = weight l.term.now

abbrev pub decreases-add_arguments : goal.decreases-add_arguments
decreases-add_arguments l = list_weight l.terms.now

abbrev pub invariant-add_arguments-loop-term : goal.invariant-add_arguments-loop-term
invariant-add_arguments-loop-term l =
    l.made ≡ l.fn.made ++ flat_map subterms (take l.term-index l.terms)
