use Rattle.std.proofs.Common.{◌≡◌, map, take}
use Rattle.term_core.specs.Tree.{trees_of}
use Rattle.term_core.specs.Measure.{weight, list_weight}
use Rattle.unifier.specs.Shifting.{shifted, HaveTooLarge}
use Rattle.unifier.proofs.shifting.+shift.Given as goal

abbrev pub decreases-shift : goal.decreases-shift
decreases-shift l = weight l.term.now

abbrev pub decreases-shift_all : goal.decreases-shift_all
decreases-shift_all l = list_weight l.terms.now

abbrev pub invariant-shift_all-loop-term : goal.invariant-shift_all-loop-term
invariant-shift_all-loop-term l = (l.made ≡ map (shifted l.by) (take l.term-index l.terms))
    × (HaveTooLarge l.by (trees_of (take l.term-index l.terms)) → ⊥)
