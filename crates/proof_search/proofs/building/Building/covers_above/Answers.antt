use Rattle.std.proofs.Common.{length, ap, arith}
use Rattle.proof_search.proofs.Climbing.{parent_of}
use Rattle.proof_search.proofs.building.Building.covers_above.Goals as goal

pub bounds-steps-here : goal.bounds-steps-here
bounds-steps-here c =
    let up =
    parent_of c.args.self.now c.requires.whole c.as_slice-parents.result.now
    c.as_slice-parents.ensures.value c.loop-here.here c.loop-here-test.true
    c.loop-here.invariant in
    omega (arith, up.stepped, ap length c.as_slice-steps.ensures.value)

pub loop-here-smaller : goal.loop-here-smaller
loop-here-smaller c =
    let up =
    parent_of c.args.self.now c.requires.whole c.as_slice-parents.result.now
    c.as_slice-parents.ensures.value c.loop-here.here c.loop-here-test.true
    c.loop-here.invariant in
    omega (arith, up.is, up.earlier)

pub loop-here-smaller-then-is_cover : goal.loop-here-smaller-then-is_cover
loop-here-smaller-then-is_cover c =
    let up =
    parent_of c.args.self.now c.requires.whole c.as_slice-parents.result.now
    c.as_slice-parents.ensures.value c.loop-here.here c.loop-here-test.true
    c.loop-here.invariant in
    omega (arith, up.is, up.earlier)

pub loop-here-preserved : goal.loop-here-preserved
loop-here-preserved c =
    let up =
    parent_of c.args.self.now c.requires.whole c.as_slice-parents.result.now
    c.as_slice-parents.ensures.value c.loop-here.here c.loop-here-test.true
    c.loop-here.invariant in
    omega (arith, up.is, up.earlier, c.loop-here.invariant)

pub loop-here-preserved-then-is_cover : goal.loop-here-preserved-then-is_cover
loop-here-preserved-then-is_cover c =
    let up =
    parent_of c.args.self.now c.requires.whole c.as_slice-parents.result.now
    c.as_slice-parents.ensures.value c.loop-here.here c.loop-here-test.true
    c.loop-here.invariant in
    omega (arith, up.is, up.earlier, c.loop-here.invariant)
