use Rattle.std.proofs.Common.{rules, ◌≡◌, ◌≤◌, ◌<◌, ℕ, List, false, ◌++◌, ◌∙◌, ◌+◌, [], Err, sym, ap, subst, arith}
use Rattle.std.proofs.Common.{length, length-set, take, drop, set, get_or}
use Rattle.std.specs.Prelude.{slice_index}
use Rattle.std.proofs.lemmas.Bool.{false_from_ne_true}
use Rattle.std.proofs.lemmas.List.{take_all}
use Rattle.spec_core.specs.Orders.{arities}
use Rattle.spec_core.specs.Findings.{Clean, test, each_after}
use Rattle.spec_core.proofs.Findings.{after_next, after_end}
use Rattle.sort_check.specs.Answers.{Tells}
use Rattle.sort_check.specs.Orders.{is_among, symbol_number, symbol_numbers, status_in}
use Rattle.sort_check.specs.OrderTests.{arity, heads_of, function_tests, status_tests, IsOrderOfArguments}
use Rattle.sort_check.specs.Marks.{AreMarks}
use Rattle.sort_check.specs.declared.faults.SortFault.TheVariants.{Sort}
use Rattle.sort_check.specs.declared.faults.SortKind.TheVariants.{StatusTwice, NoOrderOfArguments}
use Rattle.sort_check.proofs.LineLoops.{slice-written, heads-next, statuses-next, statuses-begin, statuses-long}
use Rattle.sort_check.proofs.LineLoops.{all-made}
use Rattle.sort_check.proofs.Telling.{answer_err, after_tells, tells_first, tells_then}
use Rattle.sort_check.proofs.orders.set_statuses.Goals as goal

pub loop-raw-init : goal.loop-raw-init
loop-raw-init c = record {
  long = c.in_ok-taken.ensures.long;
  as_many = statuses-long c.args.sig.now c.args.statuses.now c.requires;
  marks = c.in_ok-taken.ensures.none;
  clean = tt;
  statuses = λ f lt. statuses-begin c.args.sig.now f c.args.statuses.now c.requires lt;
}

pub returns : goal.returns
returns c =
    let sig = c.args.sig.now in
    let raws = c.args.raws.now in
    let i = c.loop-raw.raw-index in
    let ends : length raws ≤ i = omega arith in (
      after_end (status_tests sig) raws i ends c.loop-raw.invariant.clean,
      all-made sig [] (status_in sig raws) c.loop-raw.statuses c.loop-raw.invariant.as_many
          (λ f lt. c.loop-raw.invariant.statuses f lt ∙ ap (λ ls. status_in sig ls f) (take_all i raws ends)),
    )

pub returns-in_err-function : goal.returns-in_err-function
returns-in_err-function c =
    let sig = c.args.sig.now in
    let i = c.loop-raw.raw-index in
    let raw = c.raw-item.result in
    let e = c.in_err-function.field-0.0 in
    let q : c.from_residual-in_err-function.result ≡ Err e = search rules in
    let seen = symbol_numbers sig (heads_of (take i c.args.raws.now)) in
    let marks : AreMarks seen c.deref_mut.result.now =
    subst (AreMarks seen) (sym c.deref_mut.ensures.value) c.loop-raw.invariant.marks in
    let told : Tells (function_tests sig StatusTwice seen raw.head) e =
    c.in_err-function.ensures.answer seen marks in
    let here : Tells (status_tests sig (take i c.args.raws.now) raw) e =
    tells_first (function_tests sig StatusTwice seen raw.head)
    (test (Sort raw.head.at NoOrderOfArguments) (¬ (IsOrderOfArguments (arity sig raw.head) raw.numbers))) e told
    in
    answer_err (each_after (status_tests sig) [] c.args.raws.now) _ c.from_residual-in_err-function.result e q
    (after_tells (status_tests sig) c.args.raws.now i raw e c.loop-raw-test.true c.raw-item.is
    c.loop-raw.invariant.clean here)

pub returns-in_err-status : goal.returns-in_err-status
returns-in_err-status c =
    let sig = c.args.sig.now in
    let i = c.loop-raw.raw-index in
    let raw = c.raw-item.result in
    let e = c.in_err-status.field-0.0 in
    let q : c.from_residual-in_err-status.result ≡ Err e = search rules in
    let seen = symbol_numbers sig (heads_of (take i c.args.raws.now)) in
    let marks : AreMarks seen c.deref_mut.result.now =
    subst (AreMarks seen) (sym c.deref_mut.ensures.value) c.loop-raw.invariant.marks in
    let found = c.in_ok-function.ensures.answer seen marks in
    let count : c.arity.result ≡ arity sig raw.head =
    c.arity.ensures ∙ ap (λ k. slice_index (arities sig) k) (sym c.in_ok-function.ensures.named) in
    let told : Tells (test (Sort raw.head.at NoOrderOfArguments)
    (¬ (IsOrderOfArguments (arity sig raw.head) raw.numbers))) e =
    subst (λ a. Tells (test (Sort raw.head.at NoOrderOfArguments) (¬ (IsOrderOfArguments a raw.numbers))) e) count
    c.in_err-status.ensures
    in
    let here : Tells (status_tests sig (take i c.args.raws.now) raw) e =
    tells_then (function_tests sig StatusTwice seen raw.head)
    (test (Sort raw.head.at NoOrderOfArguments) (¬ (IsOrderOfArguments (arity sig raw.head) raw.numbers)))
    e found.0 told
    in
    answer_err (each_after (status_tests sig) [] c.args.raws.now) _ c.from_residual-in_err-status.result e q
    (after_tells (status_tests sig) c.args.raws.now i raw e c.loop-raw-test.true c.raw-item.is
    c.loop-raw.invariant.clean here)

pub loop-raw-preserved : goal.loop-raw-preserved
loop-raw-preserved c =
    let sig = c.args.sig.now in
    let raws = c.args.raws.now in
    let i = c.loop-raw.raw-index in
    let raw = c.raw-item.result in
    let lt = c.loop-raw-test.true in
    let is = c.raw-item.is in
    let g = c.in_ok-function.function.0 in
    let here = c.in_ok-function.ensures.named in
    let seen = symbol_numbers sig (heads_of (take i raws)) in
    let marks : AreMarks seen c.deref_mut.result.now =
    subst (AreMarks seen) (sym c.deref_mut.ensures.value) c.loop-raw.invariant.marks in
    let found = c.in_ok-function.ensures.answer seen marks in
    let count : c.arity.result ≡ arity sig raw.head =
    c.arity.ensures ∙ ap (λ k. slice_index (arities sig) k) (sym here) in
    let ordered : Clean (test (Sort raw.head.at NoOrderOfArguments)
    (¬ (IsOrderOfArguments (arity sig raw.head) raw.numbers))) =
    subst (λ a. Clean (test (Sort raw.head.at NoOrderOfArguments) (¬ (IsOrderOfArguments a raw.numbers)))) count
    c.in_ok-status.ensures.0
    in
    let new = c.take_function.new.taken in
    let written =
    slice-written new c.deref_mut.result.now c.loop-raw.taken.items c.loop-raw.taken.len
    c.deref_mut.ensures.value (omega (arith, c.deref_mut.ensures.len)) c.take_function.auto.taken in
    let within : g < length c.loop-raw.statuses =
    omega (arith, c.in_ok-function.ensures.within, c.loop-raw.invariant.as_many) in
    let unseen : is_among g seen ≡ false =
    subst (λ k. is_among k seen ≡ false) here
    (false_from_ne_true (is_among (symbol_number sig raw.head) seen) found.0.1.1) in
    record {
      long = written.1 ∙ c.loop-raw.invariant.long;
      as_many = length-set c.loop-raw.statuses g c.in_ok-status.status ∙ c.loop-raw.invariant.as_many;
      marks =
          subst (AreMarks (symbol_numbers sig (heads_of (take (i + 1) raws)))) (sym written.0)
          (heads-next sig raws i raw lt is new g here found.1);
      clean = after_next (status_tests sig) raws i raw lt is c.loop-raw.invariant.clean (found.0, ordered);
      statuses = λ f inside.
          ap (λ (s : List ℕ). get_or (set c.loop-raw.statuses g s) f []) c.in_ok-status.ensures.1
          ∙ statuses-next sig raws i raw lt is f g c.loop-raw.statuses within here unseen
          (c.loop-raw.invariant.statuses f inside);
    }
