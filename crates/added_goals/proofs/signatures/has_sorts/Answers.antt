use Rattle.std.proofs.Common.{◌≡◌, ◌+◌, Some, true, false, ap, sym, ◌∙◌}
use Rattle.std.specs.Prelude.{slice_get}
use Rattle.added_goals.proofs.SortNames.{declared_at, one_sort_more}
use Rattle.added_goals.proofs.signatures.has_sorts.Goals as goal

pub returns-then-not-is_sort_named : goal.returns-then-not-is_sort_named
returns-then-not-is_sort_named c =
    let number = c.loop-number.number in
    let name = c.as_bytes.result.now in
    let there =
    declared_at c.args.sorts.now number c.index-sorts-number.result name c.loop-number-test.true
    c.index-sorts-number.is c.as_bytes.ensures in (
      (λ t. absurd (let q : false ≡ true = t in cc)),
      (λ same.
          let at : slice_get c.args.sig.now.sorts (number + 1) ≡ Some name =
          ap (λ names. slice_get names (number + 1)) same ∙ there in
          sym c.if-not-is_sort_named.true ∙ c.is_sort_named.ensures.1 at),
    )

pub loop-number-preserved : goal.loop-number-preserved
loop-number-preserved c =
    one_sort_more c.args.sig.now.sorts c.args.sorts.now c.loop-number.number c.as_bytes.result.now
    c.loop-number.invariant (c.is_sort_named.ensures.0 c.if-not-is_sort_named.false)
    (declared_at c.args.sorts.now c.loop-number.number c.index-sorts-number.result c.as_bytes.result.now
    c.loop-number-test.true c.index-sorts-number.is c.as_bytes.ensures)
