use Rattle.std.proofs.Common.{◌+◌, refl, arith, length}
use Rattle.std.proofs.lemmas.List.FromFn.{length-range_with_len}
use Rattle.script_trim.specs.Closing.{numbers, matches_of}
use Rattle.script_trim.proofs.Adding.{adds_none, adds_item, adds_items, number_at}
use Rattle.script_trim.proofs.fitting.try_matches.Goals as goal

pub loop-place-init : goal.loop-place-init
loop-place-init g c = adds_none (g.O.TermOrder.above c.args.order.now) c.args.spot.now c.args.fits.now.items

pub loop-place-preserved : goal.loop-place-preserved
loop-place-preserved g c =
    let k = c.loop-place.place in
    let here = c.args.spot.now.here.now in
    adds_item (g.O.TermOrder.above c.args.order.now) c.args.spot.now (matches_of here) (numbers here.conclusions) k
    (k + 1)
    c.args.fits.now.items c.loop-place.fits.items _
    (number_at (length here.conclusions) k (k + 1) (omega arith) refl)
    c.loop-place.invariant c.in_ok-try_matches_of.ensures

pub returns : goal.returns
returns g c =
    let here = c.args.spot.now.here.now in
    adds_items (g.O.TermOrder.above c.args.order.now) c.args.spot.now (matches_of here) (numbers here.conclusions)
    c.loop-place.place
    c.args.fits.now.items c.loop-place.fits.items
    (omega (arith, length-range_with_len 1 (length here.conclusions))) c.loop-place.invariant
