use Rattle.replay_check.proofs.NamedValues.{AreNamedBefore}
use Rattle.replay_check.proofs.values.are_named_values.Given as goal

abbrev pub invariant-loop-place : goal.invariant-loop-place
invariant-loop-place l = AreNamedBefore l.spec l.goal.vars l.values l.place
