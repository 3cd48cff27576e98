use Rattle.std.proofs.Common.{arith, ◌+◌, ◌∷◌, ◌++◌, [], inl, inr, sym, subst, take, get_or}
use Rattle.std.proofs.lemmas.List.{take_more}
use Rattle.term_core.specs.Tree.{trees_of}
use Rattle.spec_core.specs.Small.{AreSmall}
use Rattle.spec_core.specs.Sig.{IsSort}
use Rattle.term_core.proofs.Items.{all_at_or}
use Rattle.spec_core.proofs.LeastSizes.{size_of, sum_within}
use Rattle.spec_core.proofs.SmallValues.{small_made, passed, some_maker, smalls_more}
use Rattle.spec_core.proofs.small.+small.Goals as goal
use Rattle.spec_core.proofs.small.+small.Goals.{small_by-then-info-sort+else-size-from, small_by-else-info-sort}
use Rattle.term_core.proofs.Numbers.{below_or_last}

pub small_by-returns-then-size-from : goal.small_by-returns-then-size-from
small_by-returns-then-size-from t c =
    let i = c.info-info.result.now in
    small_made c.args.tables.now c.args.least.now c.requires.least c.requires.in_range c.loop-number.number i
    c.args.sort c.as_slice-then-size-from.result.now c.application_size-size.result
    (trees_of c.in_ok-args.args) c.app.result
    (omega (arith, c.loop-number-test.true, c.constructors-number-end.ensures.count)) c.info-info.ensures
    c.requires.sort c.requires.small c.if-info-sort.true
    (size_of c.args.least.now c.as_slice.result.now i.args c.application_size-size.result c.as_slice.ensures
    c.application_size-size.ensures) (omega (arith, c.if-size-from.true, c.from.ensures))
    c.loop-number.invariant c.as_slice-then-size-from.ensures c.in_ok-args.ensures c.app.ensures

pub small_by-loop-number-preserved : goal.small_by-loop-number-preserved
small_by-loop-number-preserved t c n h m =
    elim (below_or_last n c.loop-number.number h) [
      | inl b ↦ c.loop-number.invariant n b m
      | inr q ↦
          let i = c.info-info.result.now in
          let r = passed c.args.tables.now c.args.least.now c.requires.least c.requires.in_range
          c.loop-number.number n i c.args.sort c.info-info.ensures c.requires.sort c.requires.small q m in
          elim c.if-info-sort.branch [
            | small_by-then-info-sort+else-size-from w ↦ w.if-size-from.false
                (omega (
                  arith,
                  w.from.ensures,
                  r.1,
                  c.requires.small,
                  size_of c.args.least.now w.as_slice.result.now i.args w.application_size-size.result
                      w.as_slice.ensures w.application_size-size.ensures,
                ))
            | small_by-else-info-sort w ↦ w.if-info-sort.false r.0
          ]
    ]

pub small_by-unreachable-requires : goal.small_by-unreachable-requires
small_by-unreachable-requires t c =
    some_maker c.args.tables.now c.args.least.now c.args.sort c.loop-number.number
    (c.requires.least.is_least c.args.sort.0 c.requires.sort c.requires.small).0
    (omega (arith, c.loop-number-test.false, c.constructors-number-end.ensures.count)) c.loop-number.invariant

pub smalls_by-small_by-requires : goal.smalls_by-small_by-requires
smalls_by-small_by-requires t c =
    let h = sum_within c.args.least.now c.args.sorts.now c.loop-sort.sort-index (record { 0 = 0 })
    c.loop-sort-test.true in (
      omega (arith, h),
      (
        c.requires.in_range,
        (
          c.requires.least,
          (
            omega (arith, h, c.requires.small),
            all_at_or (IsSort c.args.tables.now) c.args.sorts.now c.loop-sort.sort-index (record { 0 = 0 })
                c.requires.sorts c.loop-sort-test.true,
          ),
        ),
      ),
    )

pub smalls_by-loop-sort-preserved : goal.smalls_by-loop-sort-preserved
smalls_by-loop-sort-preserved t c =
    let s = get_or c.args.sorts.now c.loop-sort.sort-index (record { 0 = 0 }) in
    let e = take_more c.args.sorts.now c.loop-sort.sort-index (record { 0 = 0 }) c.loop-sort-test.true in
    let h = smalls_more c.args.tables.now (take c.loop-sort.sort-index c.args.sorts.now) c.loop-sort.made s
    c.in_ok-small_by.field-0 c.loop-sort.invariant c.in_ok-small_by.ensures in
    let k : AreSmall c.args.tables.now (take (c.loop-sort.sort-index + 1) c.args.sorts.now)
    (trees_of (c.loop-sort.made ++ c.in_ok-small_by.field-0 ∷ [])) = subst
    (λ ss. AreSmall c.args.tables.now ss (trees_of (c.loop-sort.made ++ c.in_ok-small_by.field-0 ∷ [])))
    (sym e) h in
    subst (λ ts. AreSmall c.args.tables.now (take (c.loop-sort.sort-index + 1) c.args.sorts.now) (trees_of ts))
    (sym c.in_ok-push.ensures.pushed) k
