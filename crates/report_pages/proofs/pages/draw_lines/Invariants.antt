use Rattle.std.proofs.Common.{take}
use Rattle.std.specs.Prelude.{option_map}
use Rattle.report_pages.specs.Lists.{Draws}
use Rattle.report_pages.specs.ReportPages.{AreLinesShown}
use Rattle.report_pages.proofs.pages.draw_lines.Given as goal

abbrev pub invariant-loop-claim : goal.invariant-loop-claim
invariant-loop-claim l =
    Draws l.fn.page l.page (AreLinesShown (option_map (λ name. name.now) l.asked) l.spec (take l.claim-index l.claims))
