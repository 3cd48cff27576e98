use Rattle.std.proofs.Common.{take}
use Rattle.inference_rules.specs.Answers.{clauses_of}
use Rattle.script_trim.specs.Closing.{subsume_each}
use Rattle.script_trim.specs.Trying.{Adds}
use Rattle.script_trim.proofs.fitting.try_nodes.Given as goal

abbrev pub invariant-loop-number : goal.invariant-loop-number
invariant-loop-number g l =
    Adds (g.O.TermOrder.above l.order) l.spot (take l.number (subsume_each 0 (clauses_of l.spot.nodes.now)))
    l.fn.fits.items l.fits.items
