use Rattle.spec_core.proofs.Fresh.{same_bytes, other_bytes, named, one_more}
use Rattle.spec_core.proofs.building.has_name.Goals as goal

pub returns-then-eq : goal.returns-then-eq
returns-then-eq c = named c.args.name.now c.args.names.now c.loop-other.other-index c.other-item.result
    c.loop-other-test.true c.other-item.is (same_bytes c.args.name.now c.other-item.result c.as_bytes.result.now
    c.eq.result c.eq.ensures c.as_bytes.ensures c.if-eq.true)

pub loop-other-preserved : goal.loop-other-preserved
loop-other-preserved c = one_more c.args.name.now c.args.names.now c.loop-other.other-index c.other-item.result
    c.loop-other-test.true c.other-item.is
    (other_bytes c.args.name.now c.other-item.result c.as_bytes.result.now c.eq.result c.eq.ensures
    c.as_bytes.ensures c.if-eq.false) c.loop-other.invariant
