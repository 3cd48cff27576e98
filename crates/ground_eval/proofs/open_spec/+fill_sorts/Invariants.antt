use Rattle.std.proofs.Common.{length}
use Rattle.ground_eval.proofs.open_spec.+fill_sorts.Given as goal

abbrev pub decreases-fill_sorts : goal.decreases-fill_sorts
decreases-fill_sorts l = length l.vars.now
