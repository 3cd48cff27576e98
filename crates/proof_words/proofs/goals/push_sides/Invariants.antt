use Rattle.std.proofs.Common.{◌≡◌, ◌++◌, drop}
use Rattle.clause_core.specs.Clauses.{sides_of}
use Rattle.proof_words.proofs.goals.push_sides.Given as goal

-- with the sides that are left all have been added
abbrev pub invariant-loop-equation : goal.invariant-loop-equation
invariant-loop-equation l =
    l.sides.items ++ sides_of (drop l.equation-index l.equations) ≡ l.fn.sides.items ++ sides_of l.equations
