-- The first term is above the second as far as each variable before the number is counted.
use Rattle.std.proofs.Common.{◌-◌, ◌<◌, ◌≤◌, ℕ}
use Rattle.kbo_order.specs.Weights.{symbol_weight, Fits}
use Rattle.kbo_order.specs.Standing.{AboveFor}
use Rattle.term_core.specs.References.{terms_of}
use Rattle.term_order.specs.Operands.{meaning}
use Rattle.kbo_order.proofs.compare.above.Given as goal

abbrev pub decreases-loop-x : goal.decreases-loop-x
decreases-loop-x l = 4294967296 - l.from

abbrev pub invariant-loop-x : goal.invariant-loop-x
invariant-loop-x l =
    let values = terms_of l.list in
    let w = symbol_weight l.weights in
    (1 ≤ l.from) × Fits w (meaning values l.t)
    × ((x : ℕ) → x < l.from → AboveFor w x (meaning values l.t) (meaning values l.s))
