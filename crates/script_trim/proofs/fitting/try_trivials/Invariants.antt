use Rattle.std.proofs.Common.{take}
use Rattle.script_trim.specs.Closing.{trivials}
use Rattle.script_trim.specs.Trying.{Adds}
use Rattle.script_trim.proofs.fitting.try_trivials.Given as goal

abbrev pub invariant-loop-place : goal.invariant-loop-place
invariant-loop-place g l =
    Adds (g.O.TermOrder.above l.order) l.spot (take l.place (trivials l.spot.here.now))
    l.fn.fits.items l.fits.items
