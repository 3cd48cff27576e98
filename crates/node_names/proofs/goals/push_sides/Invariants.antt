use Rattle.std.proofs.Common.{◌≡◌, ◌++◌, take}
use Rattle.clause_core.specs.Clauses.{sides_of}
use Rattle.node_names.proofs.goals.push_sides.Given as goal

abbrev pub invariant-loop-equation : goal.invariant-loop-equation
invariant-loop-equation l =
    l.sides.items ≡ l.fn.sides.items ++ sides_of (take l.equation-index l.equations)
