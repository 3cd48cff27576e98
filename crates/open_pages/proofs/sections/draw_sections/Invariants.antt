use Rattle.std.proofs.Common.{take}
use Rattle.std.specs.Prelude.{option_map}
use Rattle.claimed_goals.specs.Tracking.{Tracks}
use Rattle.report_pages.specs.Lists.{Draws}
use Rattle.open_pages.specs.Sections.{AreSections}
use Rattle.open_pages.proofs.sections.draw_sections.Given as goal

-- the sections of the claims so far are drawn
abbrev pub invariant-loop-claim : goal.invariant-loop-claim
invariant-loop-claim g l = record {
  tracked : Tracks l.admitted.spec (take l.claim-index l.claims) l.goals;
  drawn : Draws l.fn.page l.page (AreSections (g.O.TermOrder.above l.admitted.order) l.admitted.spec l.search
      (option_map (λ name. name.now) l.asked) (take l.claim-index l.claims));
}
