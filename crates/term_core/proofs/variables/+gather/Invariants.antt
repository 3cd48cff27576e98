use Rattle.std.proofs.Common.{◌≡◌, take, map}
use Rattle.term_core.specs.Measure.{weight, list_weight}
use Rattle.term_core.specs.Tree.{trees_of}
use Rattle.term_core.specs.Variables.{occurrences_all}
use Rattle.term_core.specs.Gathered.{gathered}
use Rattle.term_core.specs.declared.ids.VarId.{VarId}
use Rattle.term_core.proofs.variables.+gather.Given as goal

abbrev pub decreases-gather : goal.decreases-gather
decreases-gather l = weight l.term.now

abbrev pub decreases-gather_all : goal.decreases-gather_all
decreases-gather_all l = list_weight l.terms.now

abbrev pub invariant-gather_all-loop-term : goal.invariant-gather_all-loop-term
invariant-gather_all-loop-term l =
    map (λ (v : VarId). v.0) l.found ≡ gathered (map (λ (v : VarId). v.0) l.fn.found)
    (occurrences_all (trees_of (take l.term-index l.terms)))
