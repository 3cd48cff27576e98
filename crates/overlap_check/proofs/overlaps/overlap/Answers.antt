use Rattle.std.proofs.Common.{arith}
use Rattle.overlap_check.proofs.Pairs.{none_later, none_overlaps, no_overlap}
use Rattle.overlap_check.proofs.overlaps.overlap.Goals as goal

pub loop-place-preserved : goal.loop-place-preserved
loop-place-preserved c = none_later c.args.spec.now c.loop-place.place c.loop-place.invariant
    (rw c.in_default.is at c.in_ok-other.ensures)

pub returns : goal.returns
returns c =
    let nothing = none_overlaps c.args.spec.now c.loop-place.place
    (omega (arith, c.loop-place-test.false, c.len-place-end.ensures)) c.loop-place.invariant in
    (nothing, no_overlap c.args.spec.now nothing)
