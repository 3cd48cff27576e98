use Rattle.std.proofs.Common.{arith}
use Rattle.spec_core.proofs.LeastSizes.{sum_more}
use Rattle.spec_core.proofs.small.application_size.Goals as goal

pub loop-sort-preserved : goal.loop-sort-preserved
loop-sort-preserved c =
    omega (
      arith,
      c.loop-sort.invariant,
      c.min-size.ensures,
      c.from.ensures,
      sum_more c.args.least.now c.args.args.now c.loop-sort.sort-index (record { 0 = 0 }) c.loop-sort-test.true,
    )
