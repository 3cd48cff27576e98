use Rattle.std.proofs.Common.{arith}
use Rattle.unifier.proofs.Lists.{zip_pushed, zip_whole}
use Rattle.unifier.proofs.unification.closure.push_pairs.Goals as goal

pub loop-place-preserved : goal.loop-place-preserved
loop-place-preserved c = zip_pushed c.args.pending.now.items c.loop-place.pending.items c.push.new.self.items
    c.args.xs.now c.args.ys.now c.loop-place.place c.loop-place-test.true c.requires c.loop-place.invariant
    c.in_ok-push.ensures.items

pub returns : goal.returns
returns c = zip_whole c.args.pending.now.items c.loop-place.pending.items c.args.xs.now c.args.ys.now
    c.loop-place.place c.requires (omega (arith, c.loop-place-test.false)) c.loop-place.invariant
