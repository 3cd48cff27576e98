use Rattle.std.proofs.Common.{◌≡◌, drop, flat_map}
use Rattle.page_core.specs.Pages.{after}
use Rattle.open_goals.specs.Words.{stop_events}
use Rattle.open_goals.proofs.drawing.draw_stops.Given as goal

-- with the nodes that are left all have been drawn
abbrev pub invariant-loop-stop : goal.invariant-loop-stop
invariant-loop-stop l =
    let one = stop_events l.spec in
    after l.page (flat_map one (drop l.stop-index l.stops)) ≡ after l.fn.page (flat_map one l.stops)
