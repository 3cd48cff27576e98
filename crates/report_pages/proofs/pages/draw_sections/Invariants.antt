use Rattle.std.proofs.Common.{drop, take}
use Rattle.std.specs.Prelude.{option_map}
use Rattle.acceptance.specs.Accepting.{ClaimsAreAccepted}
use Rattle.claimed_goals.specs.Tracking.{Tracks}
use Rattle.report_pages.specs.Lists.{Draws}
use Rattle.report_pages.specs.ReportPages.{AreClaimsShown}
use Rattle.report_pages.proofs.pages.draw_sections.Given as goal

-- the claims so far are shown, and those that are left are accepted after them
abbrev pub invariant-loop-claim : goal.invariant-loop-claim
invariant-loop-claim g l = record {
  tracked : Tracks l.admitted.spec (take l.claim-index l.claims) l.goals;
  accepted : ClaimsAreAccepted (g.O.TermOrder.above l.admitted.order) l.admitted.spec l.steps
      (take l.claim-index l.claims) (drop l.claim-index l.claims);
  drawn : Draws l.fn.page l.page (AreClaimsShown (option_map (λ name. name.now) l.asked)
      (g.O.TermOrder.above l.admitted.order) l.admitted.spec l.steps (take l.claim-index l.claims));
}
