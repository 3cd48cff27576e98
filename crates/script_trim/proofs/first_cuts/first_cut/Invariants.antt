use Rattle.std.proofs.Common.{◌≡◌, ◌<◌, ℕ}
use Rattle.acceptance.specs.Strict.{first_child}
use Rattle.script_trim.specs.Kept.{kept_report, IsKept}
use Rattle.script_trim.specs.Trimmed.{CouldBeClosed}
use Rattle.script_trim.proofs.first_cuts.first_cut.Given as goal

abbrev pub invariant-loop-node : goal.invariant-loop-node
invariant-loop-node g l =
    (l.before ≡ first_child l.block.links.items l.node)
    × ((k : IsKept (g.O.TermOrder.above l.admitted.order) l.admitted.spec l.place.report.now l.place.number l.block)
    (i : ℕ) → i < l.node →
    CouldBeClosed (g.O.TermOrder.above l.admitted.order) l.admitted.spec
    (kept_report (g.O.TermOrder.above l.admitted.order) l.admitted.spec l.place.report.now l.place.number k.name
    l.block) l.place.number i → ⊥)
