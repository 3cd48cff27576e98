use Rattle.std.proofs.Common.{length}
use Rattle.term_core.proofs.tree.Term.+replace.Given as goal

abbrev pub decreases-replace : goal.decreases-replace
decreases-replace l = length l.path.now
