use Rattle.std.proofs.Common.{◌≡◌, drop, flat_map}
use Rattle.page_core.specs.Pages.{after}
use Rattle.open_goals.specs.Words.{near_events}
use Rattle.open_goals.proofs.drawing.draw_nears.Given as goal

-- with those that are left all have been drawn
abbrev pub invariant-loop-near : goal.invariant-loop-near
invariant-loop-near l =
    let one = near_events l.goals l.naming.sig.now l.naming.names.now in
    after l.page (flat_map one (drop l.near-index l.nears)) ≡ after l.fn.page (flat_map one l.nears)
