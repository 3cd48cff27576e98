use Rattle.std.proofs.Common.{take}
use Rattle.std.specs.Prelude.{flat_map}
use Rattle.script_trim.specs.Closing.{numbers, matches_of}
use Rattle.script_trim.specs.Trying.{Adds}
use Rattle.script_trim.proofs.fitting.try_matches.Given as goal

abbrev pub invariant-loop-place : goal.invariant-loop-place
invariant-loop-place g l =
    Adds (g.O.TermOrder.above l.order) l.spot (flat_map (matches_of l.spot.here.now)
    (take l.place (numbers l.spot.here.now.conclusions)))
    l.fn.fits.items l.fits.items
