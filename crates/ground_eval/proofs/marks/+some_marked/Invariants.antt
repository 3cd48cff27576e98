use Rattle.std.proofs.Common.{length}
use Rattle.ground_eval.proofs.marks.+some_marked.Given as goal

abbrev pub decreases-some_marked : goal.decreases-some_marked
decreases-some_marked l = length l.places.now
