use Rattle.std.proofs.Common.{◌≡◌, ◌++◌, List, map, length, refl, ap, sym, ◌∙◌, subst, arith}
use Rattle.std.specs.Prelude.{IfOk}
use Rattle.std.specs.List.{AllByRecursion}
use Rattle.coverage_check.specs.Opened.{opened}
use Rattle.coverage_check.specs.Columns.{symbols_at, fronted}
use Rattle.coverage_check.specs.Named.{IsSettled}
use Rattle.coverage_check.specs.Decisions.{HasSorts, IsMatrix, NoneMissing, IsDecision, IsDecisionUnder, IsOf}
use Rattle.coverage_check.specs.Decisions.{FirstIsOf}
use Rattle.coverage_check.proofs.Deciding.{variables_cover, no_symbols, rows_within, fronted_decided, no_columns}
use Rattle.coverage_check.proofs.Deciding.{unused_decided, all_settled, found_decided, under_decided, its_sort}
use Rattle.coverage_check.proofs.Matrices.{opened_by, joined_by, matrix_along, opened_matrix, fronted_matrix}
use Rattle.coverage_check.proofs.Symbols.{symbol_count, opened_count, fronted_count, symbols_fronted, empty_rows}
use Rattle.coverage_check.proofs.decision.+decide.Goals as goal

pub is_missing-returns-then-some_is_variables : goal.is_missing-returns-then-some_is_variables
is_missing-returns-then-some_is_variables t c =
    variables_cover c.args.sig.now c.args.sorts.now c.args.rows.now c.requires.patterns
    (c.if-some_is_variables.ensures.0 refl)

pub is_missing-fronted_rows-requires : goal.is_missing-fronted_rows-requires
is_missing-fronted_rows-requires t c = rows_within c.args.sig.now c.in-Some.column c.args.sorts.now
    c.args.rows.now c.in-Some.ensures.within c.requires.patterns

pub is_missing-is_missing_by_first-requires : goal.is_missing-is_missing_by_first-requires
is_missing-is_missing_by_first-requires t c =
    let sig = c.args.sig.now in
    let k = c.in-Some.column in
    let rows = c.args.rows.now in
    let sorts = c.args.sorts.now in
    let same : c.deref.result.now ≡ map (fronted k) rows = c.deref.ensures.value ∙ c.in_ok-moved-in-Some.ensures in
    let same_sorts : c.deref-in-Some.result.now ≡ fronted k sorts = c.deref-in-Some.ensures.value
    ∙ c.in_ok-moved_sorts-in-Some.ensures in
    let count : symbol_count c.deref.result.now ≡ symbol_count rows = ap (λ rs. symbol_count rs) same
    ∙ fronted_count k rows in
    let first : symbols_at 0 c.deref.result.now ≡ symbols_at k rows = ap (λ rs. symbols_at 0 rs) same
    ∙ symbols_fronted k rows (rows_within sig k sorts rows c.in-Some.ensures.within c.requires.patterns) in
    let matrix = matrix_along sig c.args.any.now same same_sorts
    (fronted_matrix sig c.args.any.now k sorts rows c.requires) in
    (omega (arith, count), (matrix, omega (arith, first, c.in-Some.ensures.some)))

pub is_missing-returns-in-None : goal.is_missing-returns-in-None
is_missing-returns-in-None t c =
    no_symbols c.args.sig.now c.requires.declared c.args.sorts.now c.args.rows.now c.is_empty.result
    c.requires.range c.requires.patterns c.in-None.ensures c.is_empty.ensures

pub is_missing-returns-in_ok-moved_sorts-in-Some : goal.is_missing-returns-in_ok-moved_sorts-in-Some
is_missing-returns-in_ok-moved_sorts-in-Some t c =
    fronted_decided c.args.sig.now c.in-Some.column c.args.sorts.now c.args.rows.now c.deref.result.now
    c.deref-in-Some.result.now c.is_missing_by_first.result (c.deref.ensures.value
    ∙ c.in_ok-moved-in-Some.ensures) (c.deref-in-Some.ensures.value ∙ c.in_ok-moved_sorts-in-Some.ensures)
    c.is_missing_by_first.ensures

pub is_missing_by_first-unreachable-requires : goal.is_missing_by_first-unreachable-requires
is_missing_by_first-unreachable-requires t c =
    let rows = subst (λ ss. AllByRecursion (HasSorts c.args.sig.now ss) c.args.rows.now) c.in-None.ensures
    c.requires.matrix.patterns in
    omega (arith, empty_rows c.args.rows.now (no_columns c.args.sig.now c.args.rows.now rows), c.requires.decides)

pub is_missing_by_first-returns-in-Some-unused : goal.is_missing_by_first-returns-in-Some-unused
is_missing_by_first-returns-in-Some-unused t c =
    let sig = c.args.sig.now in
    let rows = c.args.rows.now in
    let found = c.is_missing_under.result in
    let sym_number = c.in-Some-unused.sym.0 in
    let under = subst (λ ss. IfOk found (IsDecisionUnder sig sym_number rows ss)) c.in-Some.ensures
    c.is_missing_under.ensures in
    subst (λ ss. IfOk found (IsDecision sig rows ss)) (sym c.in-Some.ensures)
    (unused_decided sig c.requires.matrix.declared sym_number c.in-Some.sort.now c.in-Some.field-0-1.now
    rows c.in-Some-unused.ensures.0 c.in-Some-unused.ensures.1 found under)

pub is_missing_by_first-returns : goal.is_missing_by_first-returns
is_missing_by_first-returns t c =
    found_decided c.args.sig.now c.args.rows.now c.args.sorts.now c.in_ok-found-in-Some.found c.is_some.result
    c.is_some.ensures c.in_ok-found-in-Some.ensures

pub first_missing-unreachable-requires : goal.first_missing-unreachable-requires
first_missing-unreachable-requires t c =
    let rows = subst (λ ss. AllByRecursion (HasSorts c.args.sig.now ss) c.args.rows.now) c.in-None.ensures
    c.requires.matrix.patterns in
    omega (arith, empty_rows c.args.rows.now (no_columns c.args.sig.now c.args.rows.now rows), c.requires.decides)

pub first_missing-returns : goal.first_missing-returns
first_missing-returns t c =
    let sig = c.args.sig.now in
    let rows = c.args.rows.now in
    subst (λ ss. NoneMissing sig rows ss) (sym c.in-Some.ensures)
    (all_settled sig c.loop-number.number c.in-Some.sort.now c.in-Some.field-0-1.now rows
    (omega (arith, c.loop-number-test.false, c.constructors-number-end.ensures.count))
    (λ d h. subst (λ ss. IsSettled sig rows ss d) c.in-Some.ensures (c.loop-number.invariant d h)))

pub is_missing_under-is_missing-requires : goal.is_missing_under-is_missing-requires
is_missing_under-is_missing-requires t c =
    let sig = c.args.sig.now in
    let rows = c.args.rows.now in
    let any = c.args.any.now in
    let i = c.info.result.now in
    let others = c.in-Some.others.now in
    let same : c.deref.result.now ≡ opened c.args.sym.0 (length i.args) rows = opened_by c.args.sym.0 rows
    c.deref.ensures.value c.in_ok-opened-in-Some.ensures c.as_slice-args.ensures in
    let same_sorts : c.deref-in-Some.result.now ≡ i.args
    ++ others = joined_by others c.deref-in-Some.ensures.value c.in_ok-opened_sorts-in-Some.ensures
    c.as_slice-args.ensures in
    let matrix = subst (λ ss. IsMatrix sig rows ss any) c.in-Some.ensures c.requires.matrix in (
      omega (
        arith,
        ap (λ rs. symbol_count rs) same,
        opened_count c.args.sym.0 (length i.args) rows,
        c.requires.decides,
      ),
      matrix_along sig any same same_sorts
          (opened_matrix sig any c.args.sym.0 i c.in-Some.field-0-0.now others rows c.info.ensures matrix),
    )

pub is_missing_under-returns : goal.is_missing_under-returns
is_missing_under-returns t c =
    let sig = c.args.sig.now in
    let rows = c.args.rows.now in
    let i = c.info.result.now in
    let s = c.in-Some.field-0-0.now in
    let others = c.in-Some.others.now in
    let found = c.is_missing.result in
    let same : c.deref.result.now ≡ opened c.args.sym.0 (length i.args) rows = opened_by c.args.sym.0 rows
    c.deref.ensures.value c.in_ok-opened-in-Some.ensures c.as_slice-args.ensures in
    let same_sorts : c.deref-in-Some.result.now ≡ i.args
    ++ others = joined_by others c.deref-in-Some.ensures.value c.in_ok-opened_sorts-in-Some.ensures
    c.as_slice-args.ensures in
    let of : IsOf sig s c.args.sym.0 = subst (λ ss. FirstIsOf sig ss c.args.sym.0) c.in-Some.ensures
    c.requires.of_first in
    let have_sorts = subst (λ ss. AllByRecursion (HasSorts sig ss) rows) c.in-Some.ensures c.requires.matrix.patterns in
    subst (λ ss. IfOk found (IsDecisionUnder sig c.args.sym.0 rows ss)) (sym c.in-Some.ensures)
    (under_decided sig c.args.sym.0 i s others rows of.0 c.info.ensures
    (its_sort sig c.args.sym.0 i s c.info.ensures of) have_sorts found c.deref.result.now
    c.deref-in-Some.result.now same same_sorts c.is_missing.ensures)
