use Rattle.std.proofs.Common.{take}
use Rattle.term_core.specs.Measure.{weight, list_weight}
use Rattle.unifier.specs.Adding.{AddsAll}
use Rattle.unifier.proofs.unification.graph.+add.Given as goal

abbrev pub decreases-add : goal.decreases-add
decreases-add l = weight l.term.now

abbrev pub decreases-add_all : goal.decreases-add_all
decreases-add_all l = list_weight l.terms.now

abbrev pub invariant-add_all-loop-term : goal.invariant-add_all-loop-term
invariant-add_all-loop-term l = AddsAll l.initial.graph.items (take l.term-index l.terms) l.nodes l.graph.items
