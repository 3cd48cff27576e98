use Rattle.std.specs.List.{AllByRecursion}
use Rattle.script_trim.specs.declared.blocks.Fit.{Fit}
use Rattle.script_trim.specs.Kept.{IsKept}
use Rattle.script_trim.proofs.FirstFits.{NotBy}
use Rattle.script_trim.proofs.first_cuts.cut_among.Given as goal

abbrev pub invariant-loop-fit : goal.invariant-loop-fit
invariant-loop-fit g l =
    (k : IsKept (g.O.TermOrder.above l.admitted.order) l.admitted.spec l.place.report.now l.place.number l.block) →
    AllByRecursion (λ (f : Fit). NotBy (g.O.TermOrder.above l.admitted.order) l.admitted.spec l.place.report.now
    l.place.number l.block k l.node f.step) l.yielded
