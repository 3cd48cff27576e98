use Rattle.std.proofs.Common.{take}
use Rattle.claimed_goals.specs.Tracking.{AreProved}
use Rattle.script_trim.specs.Trying.{AreLemmas}
use Rattle.script_trim.proofs.given_cuts.lemmas_before.Given as goal

abbrev pub invariant-loop-claim : goal.invariant-loop-claim
invariant-loop-claim g l =
    AreLemmas l.admitted.spec l.lemmas
    × AreProved l.admitted.spec (take l.claim-index (take l.count l.report.claims)) l.lemmas.numbers.items
