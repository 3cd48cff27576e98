-- Terms fall by weight; the variables of the terms so far are marked.
use Rattle.std.proofs.Common.{take}
use Rattle.term_core.specs.Tree.{trees_of}
use Rattle.term_core.specs.Variables.{OccursAny}
use Rattle.term_core.specs.Measure.{weight, list_weight}
use Rattle.fitting_lists.specs.Marks.{MarksMore}
use Rattle.fitting_lists.proofs.marking.+mark.Given as goal

abbrev pub decreases-mark : goal.decreases-mark
decreases-mark l = weight l.term.now

abbrev pub decreases-mark_all : goal.decreases-mark_all
decreases-mark_all l = list_weight l.terms.now

abbrev pub invariant-mark_all-loop-term : goal.invariant-mark_all-loop-term
invariant-mark_all-loop-term l =
    MarksMore l.initial.marks l.marks (λ n. OccursAny n (trees_of (take l.term-index l.terms)))
