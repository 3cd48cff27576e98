use Rattle.normalization.specs.Found.{NoneBefore}
use Rattle.normalization.proofs.rewriter.Rewriter.first_rule.Given as goal

abbrev pub invariant-loop-place : goal.invariant-loop-place
invariant-loop-place l = NoneBefore l.self.rules l.place-items l.term l.place-index
