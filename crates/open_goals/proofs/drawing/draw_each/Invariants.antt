use Rattle.std.proofs.Common.{◌≡◌, drop, flat_map}
use Rattle.page_core.specs.Pages.{after}
use Rattle.open_goals.specs.Words.{start_events}
use Rattle.open_goals.proofs.drawing.draw_each.Given as goal

-- with the starts that are left all have been drawn
abbrev pub invariant-loop-start : goal.invariant-loop-start
invariant-loop-start l =
    let one = start_events l.spec l.names in
    after l.page (flat_map one (drop l.start-index l.starts)) ≡ after l.fn.page (flat_map one l.starts)
