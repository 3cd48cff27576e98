use Rattle.std.proofs.Common.{◌+◌, refl, arith, length}
use Rattle.std.proofs.lemmas.List.FromFn.{length-map-range_with_len}
use Rattle.clause_core.specs.declared.steps.Step.TheVariants.{Match}
use Rattle.script_trim.specs.Closing.{matches_of}
use Rattle.script_trim.proofs.Adding.{adds_none, adds_next, adds_all, step_at}
use Rattle.script_trim.proofs.fitting.try_matches_of.Goals as goal

pub loop-place-init : goal.loop-place-init
loop-place-init g c = adds_none (g.O.TermOrder.above c.args.order.now) c.args.spot.now c.args.fits.now.items

pub loop-place-preserved : goal.loop-place-preserved
loop-place-preserved g c =
    let k = c.loop-place.place in
    adds_next (g.O.TermOrder.above c.args.order.now) c.args.spot.now
    (matches_of c.args.spot.now.here.now c.args.conclusion) k (Match c.args.conclusion (k + 1))
    c.args.fits.now.items c.loop-place.fits.items _
    (step_at (λ n. Match c.args.conclusion n) (length c.args.spot.now.here.now.premises) k (k + 1) (omega arith)
    refl)
    c.loop-place.invariant c.in_ok-try_step.ensures

pub returns : goal.returns
returns g c =
    adds_all (g.O.TermOrder.above c.args.order.now) c.args.spot.now
    (matches_of c.args.spot.now.here.now c.args.conclusion) c.loop-place.place
    c.args.fits.now.items c.loop-place.fits.items
    (omega (
      arith,
      length-map-range_with_len (λ n. Match c.args.conclusion n) 1
          (length c.args.spot.now.here.now.premises),
    )) c.loop-place.invariant
