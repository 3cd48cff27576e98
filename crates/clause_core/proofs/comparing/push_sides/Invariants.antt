use Rattle.std.proofs.Common.{◌≡◌, ◌++◌, take}
use Rattle.term_core.specs.References.{terms_of}
use Rattle.clause_core.specs.Clauses.{sides_of}
use Rattle.clause_core.proofs.comparing.push_sides.Given as goal

abbrev pub invariant-loop-equation : goal.invariant-loop-equation
invariant-loop-equation l = terms_of l.made.items ≡ terms_of l.fn.made.items
    ++ sides_of (take l.equation-index l.equations)
