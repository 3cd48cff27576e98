use Rattle.std.proofs.Common.{◌≡◌, length, take}
use Rattle.claimed_goals.specs.Tracking.{AreProved}
use Rattle.script_trim.specs.Trying.{AreLemmas}
use Rattle.script_trim.proofs.TrimmedClaims.{AreTrimmed}
use Rattle.script_trim.proofs.claims.trimmed_claims.Given as goal

abbrev pub invariant-loop-number : goal.invariant-loop-number
invariant-loop-number g l =
    (length l.trimmed.items ≡ l.number)
    × AreTrimmed (g.O.TermOrder.above l.admitted.order) l.admitted.spec l.report l.trimmed.items
    × AreLemmas l.admitted.spec l.lemmas
    × AreProved l.admitted.spec (take l.number l.report.claims) l.lemmas.numbers.items
