use Rattle.std.proofs.Common.{length, map}
use Rattle.session_core.specs.Value.{kept_of}
use Rattle.session_core.specs.Written.{BeginWithClaims}
use Rattle.session_core.proofs.ReportedClaims.{AreLeft}
use Rattle.session_core.proofs.reporting.claims_of.Given as goal

-- whatever claims the commands begin with, the first ones are made, and the others are left
abbrev pub invariant-loop-goal : goal.invariant-loop-goal
invariant-loop-goal l = (b : BeginWithClaims l.commands (map kept_of l.goals)) →
    AreLeft b l.claims.items (map kept_of l.left) l.rest

abbrev pub decreases-loop-goal : goal.decreases-loop-goal
decreases-loop-goal l = length l.left
