use Rattle.std.proofs.Common.{rules, ◌≡◌, ◌≤◌, ◌++◌, ◌∙◌, ◌+◌, [], Err, sym, ap, subst, arith, length, take, drop}
use Rattle.std.proofs.Common.{get_or}
use Rattle.std.proofs.lemmas.List.{take_all}
use Rattle.std.proofs.lemmas.List.FromFn.{length-range_with_len}
use Rattle.spec_core.specs.Findings.{Clean, each_after}
use Rattle.spec_core.proofs.Findings.{after_next, after_end}
use Rattle.sort_check.specs.Answers.{Tells}
use Rattle.sort_check.specs.Orders.{symbol_numbers, level_in}
use Rattle.sort_check.specs.OrderTests.{names_in, name_tests, equal_tests}
use Rattle.sort_check.specs.Marks.{AreMarks, numbers_of}
use Rattle.sort_check.proofs.LineLoops.{slice-written, names-next, levels-next, levels-begin, all-made}
use Rattle.sort_check.proofs.Telling.{answer_err, after_tells}
use Rattle.sort_check.proofs.orders.set_levels.Goals as goal

pub loop-raw-init : goal.loop-raw-init
loop-raw-init c = record {
  long = c.in_ok-taken.ensures.long;
  as_many = ap (λ ls. length ls) c.requires ∙ length-range_with_len 0 (length c.args.sig.now.table);
  marks = c.in_ok-taken.ensures.none;
  clean = tt;
  levels = λ f lt. levels-begin c.args.sig.now f c.args.levels.now c.requires lt;
}

pub returns-in_err-functions : goal.returns-in_err-functions
returns-in_err-functions c =
    let sig = c.args.sig.now in
    let i = c.loop-raw.raw-index in
    let raw = c.raw-item.result in
    let e = c.in_err-functions.field-0.0 in
    let q : c.from_residual-in_err-functions.result ≡ Err e = search rules in
    let seen = symbol_numbers sig (names_in (take i c.args.raws.now)) in
    let marks : AreMarks seen c.deref_mut.result.now =
    subst (AreMarks seen) (sym c.deref_mut.ensures.value) c.loop-raw.invariant.marks in
    let told : Tells (equal_tests sig (take i c.args.raws.now) raw) e =
    subst (λ ns. Tells (each_after (name_tests sig seen) [] ns) e) c.as_slice.ensures
    (c.in_err-functions.ensures.answer seen marks)
    in
    answer_err (each_after (equal_tests sig) [] c.args.raws.now) _ c.from_residual-in_err-functions.result e q
    (after_tells (equal_tests sig) c.args.raws.now i raw e c.loop-raw-test.true c.raw-item.is
    c.loop-raw.invariant.clean told)

pub loop-raw-preserved : goal.loop-raw-preserved
loop-raw-preserved c =
    let sig = c.args.sig.now in
    let raws = c.args.raws.now in
    let i = c.loop-raw.raw-index in
    let raw = c.raw-item.result in
    let lt = c.loop-raw-test.true in
    let is = c.raw-item.is in
    let seen = symbol_numbers sig (names_in (take i raws)) in
    let marks : AreMarks seen c.deref_mut.result.now =
    subst (AreMarks seen) (sym c.deref_mut.ensures.value) c.loop-raw.invariant.marks in
    let found = c.in_ok-functions.ensures.answer seen marks in
    let clean : Clean (equal_tests sig (take i raws) raw) =
    subst (λ ns. Clean (each_after (name_tests sig seen) [] ns)) c.as_slice.ensures found.0 in
    let new = c.take_functions.new.taken in
    let written =
    slice-written new c.deref_mut.result.now c.loop-raw.taken.items c.loop-raw.taken.len
    c.deref_mut.ensures.value (omega (arith, c.deref_mut.ensures.len)) c.take_functions.auto.taken in
    let taken : seen ++ symbol_numbers sig c.as_slice.result.now ≡ symbol_numbers sig (names_in (take (i + 1) raws)) =
    ap (λ ns. seen ++ symbol_numbers sig ns) c.as_slice.ensures ∙ names-next sig raws i raw lt is
    in
    let named : numbers_of c.as_slice-in-loop-raw.result.now ≡ symbol_numbers sig raw.names =
    ap numbers_of c.as_slice-in-loop-raw.ensures ∙ found.1.0 ∙ ap (symbol_numbers sig) c.as_slice.ensures
    in
    record {
      long = written.1 ∙ c.loop-raw.invariant.long;
      as_many = omega arith;
      marks =
          subst (AreMarks (symbol_numbers sig (names_in (take (i + 1) raws)))) (sym written.0)
          (subst (λ ns. AreMarks ns new) taken found.1.1);
      clean = after_next (equal_tests sig) raws i raw lt is c.loop-raw.invariant.clean clean;
      levels = λ f within.
          levels-next sig raws i raw lt is f (get_or c.loop-raw.levels f 0) (get_or c.set_level.new.levels f 0)
          (numbers_of c.as_slice-in-loop-raw.result.now) clean named (c.loop-raw.invariant.levels f within)
          (c.set_level.ensures f);
    }

pub returns : goal.returns
returns c =
    let sig = c.args.sig.now in
    let raws = c.args.raws.now in
    let i = c.loop-raw.raw-index in
    let ends : length raws ≤ i = omega arith in (
      after_end (equal_tests sig) raws i ends c.loop-raw.invariant.clean,
      all-made sig 0 (level_in sig raws) c.loop-raw.levels c.loop-raw.invariant.as_many
          (λ f lt. c.loop-raw.invariant.levels f lt ∙ ap (λ ls. level_in sig ls f) (take_all i raws ends)),
    )
