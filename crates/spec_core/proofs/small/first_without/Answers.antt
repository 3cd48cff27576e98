use Rattle.std.proofs.Common.{arith, inl, inr, sym, subst}
use Rattle.std.proofs.lemmas.List.{get_or_read}
use Rattle.spec_core.specs.Small.{HasSmallValue, sort_of_number}
use Rattle.spec_core.proofs.LeastSizes.{has_small}
use Rattle.spec_core.proofs.small.first_without.Goals as goal
use Rattle.term_core.proofs.Numbers.{below_or_last}

pub loop-sort-preserved : goal.loop-sort-preserved
loop-sort-preserved c n h =
    elim (below_or_last n c.loop-sort.sort h) [
      | inl b ↦ c.loop-sort.invariant n b
      | inr q ↦ subst (λ m. HasSmallValue c.args.tables.now (sort_of_number m)) (sym q)
          (has_small c.args.tables.now c.in_ok-least.least.items c.in_ok-least.ensures c.loop-sort.sort
          (omega (arith, c.loop-sort-test.true, c.sorts-sort-end.ensures))
          (omega (
            arith,
            c.if-index-gt-SMALL_VALUE_SYMBOLS.false,
            get_or_read c.in_ok-least.least.items _ _
                (omega (arith, c.loop-sort-test.true, c.sorts-sort-end.ensures, c.in_ok-least.ensures.long))
                c.index.ensures 0,
          )))
    ]
