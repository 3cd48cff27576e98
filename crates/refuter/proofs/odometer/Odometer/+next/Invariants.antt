use Rattle.std.proofs.Common.{◌+◌, ◌*◌, length}
use Rattle.refuter.proofs.odometer.Odometer.+next.Given as goal

abbrev pub decreases-advance : goal.decreases-advance
decreases-advance l = 10 * l.depth + length l.sorts.now + 1

abbrev pub decreases-next_value : goal.decreases-next_value
decreases-next_value l = 10 * l.depth + 1
