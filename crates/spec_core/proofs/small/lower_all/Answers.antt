use Rattle.std.proofs.Common.{arith, ◌≡◌, ◌+◌, min, subst, sym}
use Rattle.spec_core.specs.Sizes.{sum_of, AreReached}
use Rattle.spec_core.proofs.LeastSizes.{size_of}
use Rattle.spec_core.proofs.Rounds.{Turns, turns_same, lowered_all}
use Rattle.spec_core.proofs.small.lower_all.Goals as goal
use Rattle.spec_core.proofs.small.lower_all.Goals.{then-size-from, else-size-from}

pub loop-number-preserved : goal.loop-number-preserved
loop-number-preserved c =
    let sig = c.args.tables.now in
    let i = c.info-info.result.now in
    let size : c.application_size-size.result ≡ min (1 + sum_of c.loop-number.least i.args) 256 = size_of
    c.loop-number.least c.as_slice.result.now i.args c.application_size-size.result c.as_slice.ensures
    c.application_size-size.ensures in
    elim c.if-size-from.branch [
      | then-size-from w ↦
          let r = lowered_all sig c.args.least.now c.loop-number.least c.if-size-from.least c.loop-number.number
          c.application_size-size.result i c.loop-number.lowered c.requires.in_range
          c.loop-number.invariant.reached
          (omega (arith, c.loop-number-test.true, c.constructors-number-end.ensures.count))
          c.info-info.ensures size (omega (arith, w.if-size-from.true, c.from.ensures))
          c.loop-number.invariant.turns w.least-is in
          record {
            reached = r.0;
            turns = subst (λ b. Turns sig c.args.least.now c.if-size-from.least (c.loop-number.number + 1) b)
                (sym w.lowered-is) r.1;
          }
      | else-size-from w ↦
          let r = turns_same sig c.args.least.now c.loop-number.least c.loop-number.number c.loop-number.lowered
          i c.info-info.ensures (omega (arith, w.if-size-from.false, c.from.ensures, size))
          c.loop-number.invariant.turns in
          record {
            reached = subst (λ xs. AreReached sig xs) (sym w.least-is) c.loop-number.invariant.reached;
            turns = subst (λ b. Turns sig c.args.least.now c.if-size-from.least (c.loop-number.number + 1) b)
                (sym w.lowered-is) (subst (λ xs. Turns sig c.args.least.now xs (c.loop-number.number + 1)
                c.loop-number.lowered) (sym w.least-is) r);
          }
    ]
