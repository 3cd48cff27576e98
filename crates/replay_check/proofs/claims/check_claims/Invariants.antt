use Rattle.std.proofs.Common.{◌≡◌, [], take}
use Rattle.acceptance.specs.Accepting.{ClaimsAreAccepted}
use Rattle.acceptance.specs.Refusals.{line_after}
use Rattle.claimed_goals.specs.Tracking.{Tracks}
use Rattle.replay_check.proofs.claims.check_claims.Given as goal

abbrev pub invariant-loop-claim : goal.invariant-loop-claim
invariant-loop-claim g l =
    Tracks l.admitted.spec (take l.claim-index l.report.claims) l.goals
    × (l.line ≡ line_after (take l.claim-index l.report.claims))
    × ClaimsAreAccepted (g.O.TermOrder.above l.admitted.order) l.admitted.spec l.report.steps []
    (take l.claim-index l.report.claims)
