use Rattle.std.proofs.Common.{length, ◌-◌}
use Rattle.ground_eval.proofs.parts.PartialGoal.+verdict_over.Given as goal

-- the variables for which nothing stands yet
abbrev pub decreases-verdict_over : goal.decreases-verdict_over
decreases-verdict_over l = length l.self.now.goal.vars - length l.entries.now
