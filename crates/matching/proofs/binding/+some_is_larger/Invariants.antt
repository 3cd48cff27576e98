use Rattle.std.proofs.Common.{length}
use Rattle.matching.proofs.binding.+some_is_larger.Given as goal

abbrev pub decreases-some_is_larger : goal.decreases-some_is_larger
decreases-some_is_larger l = length l.patterns.now
