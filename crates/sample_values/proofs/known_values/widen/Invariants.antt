use Rattle.std.proofs.Common.{◌+◌, ◌-◌, length}
use Rattle.sample_values.proofs.known_values.widen.Given as goal

abbrev pub decreases-loop-numbers : goal.decreases-loop-numbers
decreases-loop-numbers l = l.place + 1 - length l.numbers.items
