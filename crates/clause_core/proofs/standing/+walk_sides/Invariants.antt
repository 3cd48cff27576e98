use Rattle.std.proofs.Common.{length}
use Rattle.clause_core.proofs.standing.+walk_sides.Given as goal

abbrev pub decreases-walk_sides : goal.decreases-walk_sides
decreases-walk_sides l = length l.equations.now
