use Rattle.std.proofs.Common.{◌+◌, ◌*◌}
use Rattle.sample_values.proofs.samples.Samples.+small.Given as goal

abbrev pub decreases-small_values : goal.decreases-small_values
decreases-small_values l = 2 * l.depth

abbrev pub decreases-argument_lists : goal.decreases-argument_lists
decreases-argument_lists l = 2 * l.depth + 1
