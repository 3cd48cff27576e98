use Rattle.std.proofs.Common.{rules}
use Rattle.sort_check.proofs.Sides.{pair_added, none_added}
use Rattle.sort_check.proofs.walk.Walk.add_pairs.Goals as goal

pub loop-raw-preserved-in_default : goal.loop-raw-preserved-in_default
loop-raw-preserved-in_default c =
    none_added c.args.self.now.sig.now c.args.entries.now c.args.raws.now c.loop-raw.raw-index c.raw-item.result
    c.loop-raw-test.true c.raw-item.is c.args.pairs.now.items c.loop-raw.pairs.items c.loop-raw.invariant
    c.pair_of.result c.pair_of.ensures (search rules)

pub loop-raw-preserved : goal.loop-raw-preserved
loop-raw-preserved c =
    pair_added c.args.self.now.sig.now c.args.entries.now c.args.raws.now c.loop-raw.raw-index c.raw-item.result
    c.loop-raw-test.true c.raw-item.is c.args.pairs.now.items c.loop-raw.pairs.items c.loop-raw.invariant
    c.pair_of.result c.pair_of.ensures c.in-Some.pair c.push.new.self.items c.in-Some.is (search rules)
