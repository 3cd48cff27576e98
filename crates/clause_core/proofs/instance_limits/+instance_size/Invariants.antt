use Rattle.std.proofs.Common.{◌≡◌, min, map, take}
use Rattle.term_core.specs.Tree.{trees_of, sizes}
use Rattle.term_core.specs.Measure.{weight, list_weight}
use Rattle.substitutions.specs.Substitution.{apply}
use Rattle.clause_core.proofs.instance_limits.+instance_size.Given as goal

abbrev pub decreases-instance_size : goal.decreases-instance_size
decreases-instance_size l = weight l.term.now

abbrev pub decreases-instance_sizes : goal.decreases-instance_sizes
decreases-instance_sizes l = list_weight l.terms.now

abbrev pub invariant-instance_sizes-loop-term : goal.invariant-instance_sizes-loop-term
invariant-instance_sizes-loop-term l = l.size ≡ min
    (sizes (trees_of (map (apply l.theta.terms) (take l.term-index l.terms)))) l.cap
