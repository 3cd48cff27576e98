use Rattle.std.proofs.Common.{length, ◌-◌}
use Rattle.ground_eval.specs.Constants.{AreMarks}
use Rattle.ground_eval.proofs.marks.ConstantMarks.grow.Given as goal

abbrev pub invariant-loop-constants : goal.invariant-loop-constants
invariant-loop-constants l = AreMarks l.constants.from l.constants.to l.bank l.self.marks.items

abbrev pub decreases-loop-constants : goal.decreases-loop-constants
decreases-loop-constants l = length l.bank - length l.self.marks.items
