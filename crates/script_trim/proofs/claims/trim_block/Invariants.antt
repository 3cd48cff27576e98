use Rattle.std.proofs.Common.{length}
use Rattle.clause_core.specs.declared.reports.Report.{Report}
use Rattle.script_trim.specs.Kept.{kept_report, IsKept}
use Rattle.script_trim.specs.OneClaim.{LeadsWithin}
use Rattle.script_trim.proofs.claims.trim_block.Given as goal

abbrev pub invariant-loop-block : goal.invariant-loop-block
invariant-loop-block g l =
    (kept : IsKept (g.O.TermOrder.above l.admitted.order) l.admitted.spec l.place.report.now l.place.number l.block)
    × ((k : IsKept (g.O.TermOrder.above l.admitted.order) l.admitted.spec l.place.report.now l.place.number
    l.initial.block) (last : Report) →
    LeadsWithin (g.O.TermOrder.above l.admitted.order) l.admitted.spec l.place.number
    (kept_report (g.O.TermOrder.above l.admitted.order) l.admitted.spec l.place.report.now l.place.number kept.name
    l.block) last →
    LeadsWithin (g.O.TermOrder.above l.admitted.order) l.admitted.spec l.place.number
    (kept_report (g.O.TermOrder.above l.admitted.order) l.admitted.spec l.place.report.now l.place.number k.name
    l.initial.block) last)

abbrev pub decreases-loop-block : goal.decreases-loop-block
decreases-loop-block g l = length l.block.steps.items
