use Rattle.std.proofs.Common.{length}
use Rattle.ground_eval.proofs.open_spec.+other_sort.Given as goal

abbrev pub decreases-other_sort : goal.decreases-other_sort
decreases-other_sort l = length l.vars.now
