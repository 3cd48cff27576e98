use Rattle.std.proofs.Common.{◌≡◌, map, take, min}
use Rattle.term_core.specs.Tree.{trees_of, depths}
use Rattle.clause_core.specs.ClauseInstances.{equation_instance}
use Rattle.clause_core.specs.Clauses.{sides_of}
use Rattle.clause_core.proofs.instance_limits.sides_depth.Given as goal

abbrev pub invariant-loop-equation : goal.invariant-loop-equation
invariant-loop-equation l = l.depth ≡ min
    (depths (trees_of (sides_of (take l.equation-index (map (equation_instance l.theta.terms) l.equations))))) l.cap
