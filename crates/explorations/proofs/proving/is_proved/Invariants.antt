use Rattle.std.specs.Prelude.{◌↔◌, drop}
use Rattle.acceptance.specs.Claims.{IsProvedBy}
use Rattle.explorations.proofs.proving.is_proved.Given as goal

abbrev pub invariant-loop-claim : goal.invariant-loop-claim
invariant-loop-claim l = IsProvedBy l.name (drop l.claim-index l.claims) ↔ IsProvedBy l.name l.claims
