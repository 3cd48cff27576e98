use Rattle.bank_core.proofs.LinkItems.{found_here, next_here, falls_here}
use Rattle.bank_core.proofs.links.among.Goals as goal

pub returns-then-link-hash : goal.returns-then-link-hash
returns-then-link-hash c = found_here c.args.first.now c.args.links.now c.args.hash c.args.at c.loop-here.here
    _ c.requires.within c.loop-here.invariant c.loop-here-test.true c.if-link-hash.true

pub loop-here-smaller : goal.loop-here-smaller
loop-here-smaller c = falls_here c.args.first.now c.args.links.now c.args.hash c.args.at c.loop-here.here _
    c.requires.within c.loop-here.invariant c.requires.linked c.loop-here-test.true

pub loop-here-preserved : goal.loop-here-preserved
loop-here-preserved c = next_here c.args.first.now c.args.links.now c.args.hash c.args.at c.loop-here.here _
    c.requires.within c.loop-here.invariant c.requires.linked c.loop-here-test.true c.if-link-hash.false
