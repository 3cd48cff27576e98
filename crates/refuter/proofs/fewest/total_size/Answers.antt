use Rattle.std.proofs.Common.{arith}
use Rattle.refuter.specs.Fewest.{number_in}
use Rattle.refuter.proofs.Lowering.{total_more}
use Rattle.refuter.proofs.fewest.total_size.Goals as goal

pub loop-sort-preserved : goal.loop-sort-preserved
loop-sort-preserved c =
    omega (
      arith,
      c.loop-sort.invariant,
      c.min-size.ensures,
      c.saturating_add.ensures,
      total_more (number_in c.args.row.now) c.args.sorts.now c.loop-sort.sort-index (record { 0 = 0 })
          c.loop-sort-test.true,
    )
