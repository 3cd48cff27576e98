use Rattle.std.proofs.Common.{length}
use Rattle.clause_places.proofs.walk.+place_in_equations.Given as goal

abbrev pub decreases-place_in_equations : goal.decreases-place_in_equations
decreases-place_in_equations l = length l.equations.now
