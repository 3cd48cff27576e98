use Rattle.std.proofs.Common.{take}
use Rattle.report_pages.specs.Lists.{Draws}
use Rattle.report_pages.specs.Refutations.{AreEquationsShown}
use Rattle.report_pages.proofs.refuting.draw_equations.Given as goal

abbrev pub invariant-loop-index : goal.invariant-loop-index
invariant-loop-index l =
    Draws l.fn.page l.page
    (AreEquationsShown l.at.spec.now l.at.steps l.at.values.now l.conclusion (take l.index l.equations))
