use Rattle.std.proofs.Common.{length}
use Rattle.term_core.proofs.tree.Term.+at.Given as goal

abbrev pub decreases-at : goal.decreases-at
decreases-at l = length l.path.now
