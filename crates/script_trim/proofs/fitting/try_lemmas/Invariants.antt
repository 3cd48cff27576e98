use Rattle.std.proofs.Common.{take}
use Rattle.script_trim.specs.Closing.{by_each_lemma}
use Rattle.script_trim.specs.Trying.{Adds}
use Rattle.script_trim.proofs.fitting.try_lemmas.Given as goal

abbrev pub invariant-loop-number : goal.invariant-loop-number
invariant-loop-number g l =
    Adds (g.O.TermOrder.above l.order) l.spot (take l.number (by_each_lemma l.spot.spec.now.goals))
    l.fn.fits.items l.fits.items
