use Rattle.std.proofs.Common.{◌≡◌, flat_map, take}
use Rattle.page_core.specs.Pages.{after}
use Rattle.report_pages.specs.Values.{variable_events}
use Rattle.report_pages.proofs.refuting.draw_values.Given as goal

abbrev pub invariant-loop-name : goal.invariant-loop-name
invariant-loop-name l =
    l.page ≡ after l.fn.page (flat_map (variable_events l.sig) (take l.name-index l.values))
