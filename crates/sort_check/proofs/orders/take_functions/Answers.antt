use Rattle.std.proofs.Common.{rules, ◌≡◌, ◌++◌, ◌∷◌, ◌∙◌, ◌<◌, [], Err, sym, ap, subst, arith, length, take}
use Rattle.std.specs.Prelude.{slice_index}
use Rattle.term_core.proofs.Items.{all_append}
use Rattle.term_core.specs.declared.ids.SymId.{SymId}
use Rattle.spec_core.specs.Orders.{arities}
use Rattle.spec_core.specs.Findings.{each_after, test}
use Rattle.spec_core.proofs.Findings.{after_next}
use Rattle.sort_check.specs.Answers.{Tells}
use Rattle.sort_check.specs.Orders.{symbol_numbers}
use Rattle.sort_check.specs.OrderTests.{arity, function_tests, name_tests, IsUnlikeFirst}
use Rattle.sort_check.specs.Marks.{AllAreBelow}
use Rattle.sort_check.specs.declared.faults.SortFault.TheVariants.{Sort}
use Rattle.sort_check.specs.declared.faults.SortKind.TheVariants.{EqualTwice, WrongNumberOfArguments}
use Rattle.sort_check.proofs.LineLoops.{unlike_first, like_first, functions-next, seen-next, wanted_next}
use Rattle.sort_check.proofs.Telling.{answer_err, after_tells, tells_first, tells_then}
use Rattle.sort_check.proofs.orders.take_functions.Goals as goal

pub returns-in_err-function-clause-answer : goal.returns-in_err-function-clause-answer
returns-in_err-function-clause-answer c = λ seen are.
    let sig = c.args.sig.now in
    let i = c.loop-raw.raw-index in
    let raw = c.raw-item.result in
    let line = take i c.args.raws.now in
    let e = c.in_err-function.field-0.0 in
    let q : c.from_residual.result ≡ Err e = search rules in
    let before = seen ++ symbol_numbers sig line in
    let told : Tells (function_tests sig EqualTwice before raw) e =
    c.in_err-function.ensures.answer before (c.loop-raw.invariant.marks seen are) in
    let here = tells_first (function_tests sig EqualTwice before raw)
    (test (Sort raw.at WrongNumberOfArguments) (IsUnlikeFirst sig line raw)) e told in
    answer_err (each_after (name_tests sig seen) [] c.args.raws.now) _ c.from_residual.result e q
    (after_tells (name_tests sig seen) c.args.raws.now i raw e c.loop-raw-test.true c.raw-item.is
    (c.loop-raw.invariant.clean seen are) here)

pub returns-then-unwrap_or-count-clause-answer : goal.returns-then-unwrap_or-count-clause-answer
returns-then-unwrap_or-count-clause-answer c = λ seen are.
    let sig = c.args.sig.now in
    let i = c.loop-raw.raw-index in
    let raw = c.raw-item.result in
    let line = take i c.args.raws.now in
    let before = seen ++ symbol_numbers sig line in
    let found = c.in_ok-function.ensures.answer before (c.loop-raw.invariant.marks seen are) in
    let count : c.arity-count.result ≡ arity sig raw =
    c.arity-count.ensures ∙ ap (λ f. slice_index (arities sig) f) (sym c.in_ok-function.ensures.named) in
    let unlike : IsUnlikeFirst sig line raw =
    unlike_first sig line raw c.loop-raw.wanted c.arity-count.result c.loop-raw.invariant.wanted count
    (subst (λ n. n ≡ c.arity-count.result → ⊥) c.unwrap_or.ensures c.if-unwrap_or-count.true)
    in
    let told : Tells (name_tests sig seen line raw) (Sort raw.at WrongNumberOfArguments) =
    tells_then (function_tests sig EqualTwice before raw)
    (test (Sort raw.at WrongNumberOfArguments) (IsUnlikeFirst sig line raw))
    (Sort raw.at WrongNumberOfArguments) found.0 (unlike, search rules)
    in
    subst (λ e. Tells (each_after (name_tests sig seen) [] c.args.raws.now) e) (sym c.fault.ensures)
    (after_tells (name_tests sig seen) c.args.raws.now i raw (Sort raw.at WrongNumberOfArguments)
    c.loop-raw-test.true c.raw-item.is (c.loop-raw.invariant.clean seen are) told)

pub loop-raw-preserved : goal.loop-raw-preserved
loop-raw-preserved c =
    let sig = c.args.sig.now in
    let raws = c.args.raws.now in
    let i = c.loop-raw.raw-index in
    let raw = c.raw-item.result in
    let f = c.in_ok-function.function.0 in
    let lt = c.loop-raw-test.true in
    let is = c.raw-item.is in
    let same : c.unwrap_or.result ≡ c.arity-count.result = c.if-unwrap_or-count.false in
    let agrees = sym c.unwrap_or.ensures ∙ same in
    let here = c.in_ok-function.ensures.named in
    let count : c.arity-count.result ≡ arity sig raw =
    c.arity-count.ensures ∙ ap (λ k. slice_index (arities sig) k) (sym here) in
    let before = c.loop-raw.invariant in
    record {
      long = omega arith;
      within = subst (AllAreBelow (length sig.table)) (sym c.in_ok-push.ensures.pushed)
          (all_append (λ (g : SymId). g.0 < length sig.table) c.loop-raw.functions
          (c.in_ok-function.function ∷ []) before.within (c.in_ok-function.ensures.within, tt));
      made =
          functions-next sig raws i raw lt is c.loop-raw.functions c.push.new.self c.in_ok-function.function
          before.made here c.in_ok-push.ensures.pushed;
      wanted = wanted_next sig raws i raw lt is c.loop-raw.wanted c.arity-count.result before.wanted count agrees;
      marks = λ seen are.
          let found = c.in_ok-function.ensures.answer (seen ++ symbol_numbers sig (take i raws))
          (before.marks seen are) in
          seen-next sig raws i raw lt is seen f c.take_function.new.taken here found.1;
      clean = λ seen are.
          let found = c.in_ok-function.ensures.answer (seen ++ symbol_numbers sig (take i raws))
          (before.marks seen are) in
          after_next (name_tests sig seen) raws i raw lt is (before.clean seen are) (
            found.0,
            like_first sig (take i raws) raw c.loop-raw.wanted c.arity-count.result before.wanted count agrees,
          );
    }
