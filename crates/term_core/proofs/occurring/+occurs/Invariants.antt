-- Terms fall by weight; none of the terms so far has the variable.
use Rattle.std.proofs.Common.{take}
use Rattle.term_core.specs.Tree.{trees_of}
use Rattle.term_core.specs.Variables.{OccursAny}
use Rattle.term_core.specs.Measure.{weight, list_weight}
use Rattle.term_core.proofs.occurring.+occurs.Given as goal

abbrev pub decreases-occurs : goal.decreases-occurs
decreases-occurs l = weight l.term.now

abbrev pub decreases-occurs_in_any : goal.decreases-occurs_in_any
decreases-occurs_in_any l = list_weight l.terms.now

abbrev pub invariant-occurs_in_any-loop-term : goal.invariant-occurs_in_any-loop-term
invariant-occurs_in_any-loop-term l = OccursAny l.number (trees_of (take l.term-index l.terms)) → ⊥
