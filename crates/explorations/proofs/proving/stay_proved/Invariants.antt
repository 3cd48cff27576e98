use Rattle.std.specs.Prelude.{◌↔◌, drop}
use Rattle.explorations.specs.Proved.{StayProved}
use Rattle.explorations.proofs.proving.stay_proved.Given as goal

abbrev pub invariant-loop-claim : goal.invariant-loop-claim
invariant-loop-claim l = StayProved (drop l.claim-index l.before) l.claims ↔ StayProved l.before l.claims
