use Rattle.std.proofs.Common.{◌≡◌, ◌+◌, ◌∷◌, ◌++◌, ◌≤◌, List, true, take, drop, length, refl, ap, sym, ◌∙◌, subst}
use Rattle.std.proofs.Common.{arith}
use Rattle.std.specs.Prelude.{IfOk}
use Rattle.std.specs.List.{AllByRecursion}
use Rattle.std.proofs.lemmas.List.{length-append}
use Rattle.term_core.specs.Tree.{app, trees_of}
use Rattle.term_core.specs.declared.ids.SortId.{SortId}
use Rattle.coverage_check.specs.Opened.{BeginsWithVariable, rests, opened}
use Rattle.coverage_check.specs.Named.{IsNamed}
use Rattle.coverage_check.specs.Decisions.{HasSorts, IsMatrix, SomeMissing, IsDecisionUnder, IsFirstMissing}
use Rattle.coverage_check.proofs.Walks.{empty_test}
use Rattle.coverage_check.proofs.Symbols.{symbol_count, rests_count, opened_count}
use Rattle.coverage_check.proofs.NamedValues.{smalls_named, no_sorts_missing, work_rests, rests_sorts, rests_missing}
use Rattle.coverage_check.proofs.NamedValues.{rests_named, some_begin, work_opened, under_opened, named_along}
use Rattle.coverage_check.proofs.NamedValues.{named_length, first_open, first_named}
use Rattle.coverage_check.proofs.Matrices.{opened_by, joined_by, matrix_along, opened_matrix, rests_matrix}
use Rattle.coverage_check.proofs.naming.+name.Goals as goal

pub name-returns-then-is_empty : goal.name-returns-then-is_empty
name-returns-then-is_empty t c =
    smalls_named c.args.sig.now c.args.rows.now c.args.sorts.now c.smalls.result
    ((empty_test c.args.rows.now c.is_empty.result c.is_empty.ensures).0 c.if-is_empty.true) c.smalls.ensures

pub name-unreachable-requires : goal.name-unreachable-requires
name-unreachable-requires t c =
    let sig = c.args.sig.now in
    let rows = c.args.rows.now in
    no_sorts_missing sig rows (λ e. let q = (empty_test rows c.is_empty.result c.is_empty.ensures).1 e in
    cc) (subst (λ ss. AllByRecursion (HasSorts sig ss) rows) c.in-None.ensures c.requires.matrix.patterns)
    (subst (λ ss. SomeMissing sig rows ss) c.in-None.ensures c.requires.missing)

pub name-name_under_first-requires : goal.name-name_under_first-requires
name-name_under_first-requires t c = (
  omega arith,
  (
    c.requires.matrix,
    (c.requires.missing, λ a. let q = c.if-not-begin_with_variables.ensures.1 a in cc),
  ),
)

pub name-name-requires : goal.name-name-requires
name-name-requires t c =
    let sig = c.args.sig.now in
    let any = c.args.any.now in
    let rows = c.args.rows.now in
    let s = c.in-Some.sort.now in
    let others = c.in-Some.others.now in
    let same : c.deref.result.now ≡ rests rows = c.deref.ensures.value ∙ c.in_ok-rests-in-Some.ensures in
    let fewer : symbol_count c.deref.result.now ≤ symbol_count rows = omega (
      arith,
      ap (λ rs. symbol_count rs) same,
      rests_count rows,
    ) in
    let columns : length c.args.sorts.now ≡ length others + 1 = omega (
      arith,
      ap (λ (ss : List SortId). length ss) c.in-Some.ensures,
    ) in
    let falls = work_rests sig (symbol_count rows) (symbol_count c.deref.result.now) (length c.args.sorts.now)
    (length others) fewer columns in
    let begin = c.if-not-begin_with_variables.ensures.0 refl in
    let matrix = subst (λ ss. IsMatrix sig rows ss any) c.in-Some.ensures c.requires.matrix in
    let missing = subst (λ ss. SomeMissing sig rows ss) c.in-Some.ensures c.requires.missing in (
      omega (arith, falls),
      (
        matrix_along sig any same refl (rests_matrix sig any s others rows matrix),
        subst (λ rs. SomeMissing sig rs others) (sym same) (rests_missing sig s others rows begin missing),
      ),
    )

pub name-returns : goal.name-returns
name-returns t c =
    let sig = c.args.sig.now in
    let rows = c.args.rows.now in
    let s = c.in-Some.sort.now in
    let others = c.in-Some.others.now in
    let same : c.deref.result.now ≡ rests rows = c.deref.ensures.value ∙ c.in_ok-rests-in-Some.ensures in
    let named = subst (λ rs. IsNamed sig rs others c.in_ok-rest-in-Some.rest) same c.in_ok-rest-in-Some.ensures in
    subst (λ ss. IfOk c.before-in-Some.result (IsNamed sig rows ss)) (sym c.in-Some.ensures)
    (rests_named sig rows s others c.in_ok-value-in-Some.value c.in_ok-rest-in-Some.rest
    c.before-in-Some.result (λ e. let q = (empty_test rows c.is_empty.result c.is_empty.ensures).1 e in
    cc) (c.if-not-begin_with_variables.ensures.0 refl) c.in_ok-value-in-Some.ensures named c.before-in-Some.ensures)

pub name_under_first-unreachable-requires : goal.name_under_first-unreachable-requires
name_under_first-unreachable-requires t c =
    let sig = c.args.sig.now in
    let rows = c.args.rows.now in
    no_sorts_missing sig rows
    (λ e. c.requires.decides (subst (λ rs. AllByRecursion BeginsWithVariable rs) (sym e) tt))
    (subst (λ ss. AllByRecursion (HasSorts sig ss) rows) c.in-None.ensures c.requires.matrix.patterns)
    (subst (λ ss. SomeMissing sig rows ss) c.in-None.ensures c.requires.missing)

pub name_under_first-first_missing-requires-clause-decides : goal.name_under_first-first_missing-requires-clause-decides
name_under_first-first_missing-requires-clause-decides t c =
    some_begin c.args.sig.now c.in-Some.field-0-0.now c.in-Some.others.now c.args.rows.now
    (subst (λ ss. AllByRecursion (HasSorts c.args.sig.now ss) c.args.rows.now) c.in-Some.ensures
    c.requires.matrix.patterns) c.requires.decides

pub name_under_first-name-requires : goal.name_under_first-name-requires
name_under_first-name-requires t c =
    let sig = c.args.sig.now in
    let any = c.args.any.now in
    let rows = c.args.rows.now in
    let n = c.in-Some-2.sym.0 in
    let i = c.info.result.now in
    let s = c.in-Some.field-0-0.now in
    let others = c.in-Some.others.now in
    let same : c.deref.result.now ≡ opened n (length i.args) rows = opened_by n rows c.deref.ensures.value
    c.in_ok-opened-in-Some-2.ensures c.as_slice-args.ensures in
    let same_sorts : c.deref-in-Some-2.result.now ≡ i.args
    ++ others = joined_by others c.deref-in-Some-2.ensures.value c.in_ok-opened_sorts-in-Some-2.ensures
    c.as_slice-args.ensures in
    let matrix = subst (λ ss. IsMatrix sig rows ss any) c.in-Some.ensures c.requires.matrix in
    let first : IsFirstMissing sig rows c.args.sorts.now n = rw c.in-Some-2.is
    at c.in_ok-first_missing-in-Some.ensures in
    let under = subst (λ ss. IsDecisionUnder sig n rows ss true) c.in-Some.ensures first.missing in
    let missing = under_opened sig n i s others rows c.info.ensures matrix.patterns under in
    let count : symbol_count c.deref.result.now + 1 ≤ symbol_count rows = omega (
      arith,
      ap (λ rs. symbol_count rs) same,
      opened_count n (length i.args) rows,
      some_begin sig s others rows matrix.patterns c.requires.decides,
    ) in
    let columns : length c.args.sorts.now ≡ length others + 1 = omega (
      arith,
      ap (λ (ss : List SortId). length ss) c.in-Some.ensures,
    ) in
    let long : length c.deref-in-Some-2.result.now ≡ length i.args + length others = ap
    (λ (ss : List SortId). length ss) same_sorts ∙ length-append i.args others in
    let falls = work_opened sig n i (symbol_count rows) (symbol_count c.deref.result.now)
    (length c.args.sorts.now) (length others) c.info.ensures count columns in
    let opened_missing = subst (λ rs. SomeMissing sig rs c.deref-in-Some-2.result.now) (sym same)
    (subst (λ ss. SomeMissing sig (opened n (length i.args) rows) ss) (sym same_sorts) missing) in (
      omega (arith, falls, long),
      (
        matrix_along sig any same same_sorts (opened_matrix sig any n i s others rows c.info.ensures matrix),
        opened_missing,
      ),
    )

pub name_under_first-closed-requires : goal.name_under_first-closed-requires
name_under_first-closed-requires t c =
    let sig = c.args.sig.now in
    let rows = c.args.rows.now in
    let n = c.in-Some-2.sym.0 in
    let i = c.info.result.now in
    let others = c.in-Some.others.now in
    let values = c.in_ok-values-in-Some-2.values in
    let have = subst (λ ss. AllByRecursion (HasSorts sig ss) rows) c.in-Some.ensures c.requires.matrix.patterns in
    let named = named_along sig (opened_by n rows c.deref.ensures.value c.in_ok-opened-in-Some-2.ensures
    c.as_slice-args.ensures)
    (joined_by others c.deref-in-Some-2.ensures.value c.in_ok-opened_sorts-in-Some-2.ensures
    c.as_slice-args.ensures) c.in_ok-values-in-Some-2.ensures in
    omega (
      arith,
      ap (λ (ss : List SortId). length ss) c.as_slice-args.ensures,
      named_length sig n i c.in-Some.field-0-0.now others rows c.info.ensures have values named,
    )

pub name_under_first-returns : goal.name_under_first-returns
name_under_first-returns t c =
    let sig = c.args.sig.now in
    let rows = c.args.rows.now in
    let n = c.in-Some-2.sym.0 in
    let i = c.info.result.now in
    let s = c.in-Some.field-0-0.now in
    let others = c.in-Some.others.now in
    let values = c.in_ok-values-in-Some-2.values in
    let have = subst (λ ss. AllByRecursion (HasSorts sig ss) rows) c.in-Some.ensures c.requires.matrix.patterns in
    let named = named_along sig (opened_by n rows c.deref.ensures.value c.in_ok-opened-in-Some-2.ensures
    c.as_slice-args.ensures)
    (joined_by others c.deref-in-Some-2.ensures.value c.in_ok-opened_sorts-in-Some-2.ensures
    c.as_slice-args.ensures) c.in_ok-values-in-Some-2.ensures in
    let found : IsFirstMissing sig rows c.args.sorts.now n = rw c.in-Some-2.is
    at c.in_ok-first_missing-in-Some.ensures in
    let first = first_open sig n i s others rows c.info.ensures have c.requires.decides
    (subst (λ ss. IsFirstMissing sig rows ss n) c.in-Some.ensures found) in
    let made = subst (λ (ss : List SortId). IfOk c.closed.result
    (λ vs. vs ≡ app n (trees_of (take (length ss) values)) ∷ drop (length ss) values))
    c.as_slice-args.ensures c.closed.ensures in
    subst (λ ss. IfOk c.closed.result (IsNamed sig rows ss)) (sym c.in-Some.ensures)
    (first_named sig n i s others rows c.info.ensures have values c.closed.result first named made)
