use Rattle.std.proofs.Common.{arith}
use Rattle.coverage_check.proofs.Busiest.{busier, not_busier, busiest_of_all}
use Rattle.coverage_check.proofs.columns.busiest.Goals as goal
use Rattle.coverage_check.proofs.columns.busiest.Goals.{then-count-most, else-count-most}

pub loop-column-preserved : goal.loop-column-preserved
loop-column-preserved c =
    elim c.if-count-most.branch [
      | then-count-most w ↦ rw (
        w.found-is,
        w.most-is,
      ) (busier c.args.rows.now c.loop-column.column c.symbols_at-count.result
          c.symbols_at-count.ensures c.loop-column.found c.loop-column.most c.loop-column.invariant
          w.if-count-most.true)
      | else-count-most w ↦ rw (
        w.found-is,
        w.most-is,
      ) (not_busier c.args.rows.now c.loop-column.column c.symbols_at-count.result
          c.symbols_at-count.ensures c.loop-column.found c.loop-column.most c.loop-column.invariant
          w.if-count-most.false)
    ]

pub returns : goal.returns
returns c = busiest_of_all c.args.rows.now c.loop-column.column c.args.columns c.loop-column.found
    c.loop-column.most (omega arith) c.loop-column.invariant
