use Rattle.std.proofs.Common.{◌≡◌, take, min}
use Rattle.term_core.specs.Tree.{trees_of, sizes}
use Rattle.clause_core.specs.Clauses.{sides_of}
use Rattle.place_comparison.proofs.within.size.Given as goal

abbrev pub invariant-loop-equation : goal.invariant-loop-equation
invariant-loop-equation l = l.size ≡ min (sizes (trees_of (sides_of (take l.equation-index l.equations)))) l.cap
