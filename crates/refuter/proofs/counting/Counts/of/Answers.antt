use Rattle.std.proofs.Common.{arith, ◌≡◌, ap}
use Rattle.std.specs.Prelude.{slice_index}
use Rattle.refuter.specs.Counts.{Counted}
use Rattle.refuter.specs.Sequences.{sum_below}
use Rattle.refuter.proofs.Sums.{sum_more, sum_none}
use Rattle.refuter.proofs.Counted.{values_counted}
use Rattle.refuter.proofs.counting.Counts.of.Goals as goal

pub loop-symbols-init : goal.loop-symbols-init
loop-symbols-init c = omega (arith, sum_none (slice_index c.values-numbers.result.now))

pub loop-symbols-preserved : goal.loop-symbols-preserved
loop-symbols-preserved c =
    omega (
      arith,
      sum_more (slice_index c.values-numbers.result.now) c.loop-symbols.symbols,
      c.loop-symbols.invariant,
      c.saturating_add.ensures,
      c.min-total.ensures,
      ap (λ (k : Counted). k.cap) c.self.view_is,
    )

pub returns : goal.returns
returns c =
    let e : c.loop-symbols.symbols ≡ 256 = omega arith in
    let all = values_counted c.args.self.now.sig c.args.self.now.depth c.args.self.now.cap c.args.sort
    c.values-numbers.result.now c.values-numbers.ensures in
    omega (arith, c.loop-symbols.invariant, ap (λ k. sum_below k (slice_index c.values-numbers.result.now)) e, all)
