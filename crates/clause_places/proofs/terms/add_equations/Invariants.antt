use Rattle.std.proofs.Common.{◌≡◌, ◌++◌, take, map}
use Rattle.std.specs.List.{flat_map}
use Rattle.clause_core.specs.Clauses.{sides_of}
use Rattle.clause_places.specs.Counts.{counts_of}
use Rattle.clause_places.specs.Listed.{subterms}
use Rattle.clause_places.proofs.terms.add_equations.Given as goal

abbrev pub invariant-loop-equation : goal.invariant-loop-equation
invariant-loop-equation l = record {
  terms :
      l.made ≡ l.fn.made ++ flat_map subterms (sides_of (take l.equation-index l.equations));
  counts : l.counts.items ≡ map counts_of (take l.equation-index l.equations);
}
