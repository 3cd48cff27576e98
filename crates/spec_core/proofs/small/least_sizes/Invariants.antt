use Rattle.std.specs.Prelude.{sum}
use Rattle.spec_core.specs.Sizes.{AreReached}
use Rattle.spec_core.proofs.small.least_sizes.Given as goal

abbrev pub invariant-loop : goal.invariant-loop
invariant-loop l = AreReached l.tables l.least.items

abbrev pub decreases-loop : goal.decreases-loop
decreases-loop l = sum l.least.items
