-- How many places the sides of an equation have.
use Rattle.std.specs.Prelude.{length}
use Rattle.spec_core.specs.declared.records.Equation.{Equation}
use Rattle.clause_places.specs.Spots.{paths}
use Rattle.clause_places.specs.declared.terms.Counts.{Counts}

abbrev pub counts_of : Equation → Counts
counts_of e = record { left = length (paths e.left); right = length (paths e.right) }
