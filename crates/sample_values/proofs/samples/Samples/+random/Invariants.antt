use Rattle.std.proofs.Common.{◌+◌, ◌*◌}
use Rattle.sample_values.proofs.samples.Samples.+random.Given as goal

abbrev pub decreases-random_within : goal.decreases-random_within
decreases-random_within l = 2 * l.depth

abbrev pub decreases-random_args : goal.decreases-random_args
decreases-random_args l = 2 * l.depth + 1
