use Rattle.std.proofs.Common.{◌≡◌, min, map, take}
use Rattle.term_core.specs.Tree.{trees_of, depths}
use Rattle.term_core.specs.Measure.{weight, list_weight}
use Rattle.substitutions.specs.Substitution.{apply}
use Rattle.clause_core.proofs.instance_limits.+instance_depth.Given as goal

abbrev pub decreases-instance_depth : goal.decreases-instance_depth
decreases-instance_depth l = weight l.term.now

abbrev pub decreases-instance_depths : goal.decreases-instance_depths
decreases-instance_depths l = list_weight l.terms.now

abbrev pub invariant-instance_depths-loop-term : goal.invariant-instance_depths-loop-term
invariant-instance_depths-loop-term l = l.depth ≡ min
    (depths (trees_of (map (apply l.theta.terms) (take l.term-index l.terms)))) l.cap
