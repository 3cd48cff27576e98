use Rattle.std.proofs.Common.{rules, ◌≡◌, ◌≤◌, ◌<◌, false, ◌++◌, ◌∙◌, ◌+◌, [], Err, sym, ap, subst, arith, length}
use Rattle.std.proofs.Common.{length-set, take, drop}
use Rattle.std.proofs.lemmas.Bool.{false_from_ne_true}
use Rattle.std.proofs.lemmas.List.{take_all, length-replicate}
use Rattle.spec_core.specs.Findings.{each_after}
use Rattle.spec_core.proofs.Findings.{after_next, after_end}
use Rattle.sort_check.specs.Answers.{Tells}
use Rattle.sort_check.specs.Orders.{is_among, symbol_number, symbol_numbers, weight_in}
use Rattle.sort_check.specs.OrderTests.{weighed_names, weight_tests}
use Rattle.sort_check.specs.Marks.{AreMarks}
use Rattle.sort_check.proofs.LineLoops.{slice-written, weighed-next, weights-next, weights-begin, all-made}
use Rattle.sort_check.proofs.Telling.{answer_err, after_tells}
use Rattle.sort_check.proofs.weights.weights_in.Goals as goal

pub loop-raw-init : goal.loop-raw-init
loop-raw-init c =
    let n = length c.args.sig.now.table in
    record {
      long = c.in_ok-taken.ensures.long;
      as_many = ap (λ ws. length ws) c.in_ok-weights.ensures ∙ length-replicate n 1;
      marks = c.in_ok-taken.ensures.none;
      clean = tt;
      weights = λ f lt. weights-begin c.args.sig.now f c.in_ok-weights.weights.items c.in_ok-weights.ensures lt;
    }

pub returns-in_err-symbol : goal.returns-in_err-symbol
returns-in_err-symbol c =
    let sig = c.args.sig.now in
    let i = c.loop-raw.raw-index in
    let raw = c.raw-item.result in
    let e = c.in_err-symbol.field-0.0 in
    let q : c.from_residual-in_err-symbol.result ≡ Err e = search rules in
    let seen = symbol_numbers sig (weighed_names (take i c.args.raws.now)) in
    let marks : AreMarks seen c.deref_mut.result.now =
    subst (AreMarks seen) (sym c.deref_mut.ensures.value) c.loop-raw.invariant.marks in
    let told : Tells (weight_tests sig (take i c.args.raws.now) raw) e =
    c.in_err-symbol.ensures.answer (take i c.args.raws.now) marks in
    answer_err (each_after (weight_tests sig) [] c.args.raws.now) _ c.from_residual-in_err-symbol.result e q
    (after_tells (weight_tests sig) c.args.raws.now i raw e c.loop-raw-test.true c.raw-item.is
    c.loop-raw.invariant.clean told)

pub loop-raw-preserved : goal.loop-raw-preserved
loop-raw-preserved c =
    let sig = c.args.sig.now in
    let raws = c.args.raws.now in
    let i = c.loop-raw.raw-index in
    let raw = c.raw-item.result in
    let lt = c.loop-raw-test.true in
    let is = c.raw-item.is in
    let g = c.in_ok-symbol.symbol.0 in
    let here = c.in_ok-symbol.ensures.named in
    let seen = symbol_numbers sig (weighed_names (take i raws)) in
    let marks : AreMarks seen c.deref_mut.result.now =
    subst (AreMarks seen) (sym c.deref_mut.ensures.value) c.loop-raw.invariant.marks in
    let found = c.in_ok-symbol.ensures.answer (take i raws) marks in
    let new = c.take_symbol.new.taken in
    let written =
    slice-written new c.deref_mut.result.now c.loop-raw.taken.items c.loop-raw.taken.len
    c.deref_mut.ensures.value (omega (arith, c.deref_mut.ensures.len)) c.take_symbol.auto.taken in
    let within : g < length c.loop-raw.weights.items =
    omega (arith, c.in_ok-symbol.ensures.within, c.loop-raw.invariant.as_many) in
    let unseen : is_among g seen ≡ false =
    subst (λ k. is_among k seen ≡ false) here
    (false_from_ne_true (is_among (symbol_number sig raw.name) seen) found.0.1.0) in
    record {
      long = written.1 ∙ c.loop-raw.invariant.long;
      as_many = length-set c.loop-raw.weights.items g raw.weight ∙ c.loop-raw.invariant.as_many;
      marks =
          subst (AreMarks (symbol_numbers sig (weighed_names (take (i + 1) raws)))) (sym written.0)
          (weighed-next sig raws i raw lt is new found.1);
      clean = after_next (weight_tests sig) raws i raw lt is c.loop-raw.invariant.clean found.0;
      weights = λ f inside.
          weights-next sig raws i raw lt is f g c.loop-raw.weights.items within here unseen
          (c.loop-raw.invariant.weights f inside);
    }

pub returns : goal.returns
returns c =
    let sig = c.args.sig.now in
    let raws = c.args.raws.now in
    let i = c.loop-raw.raw-index in
    let ends : length raws ≤ i = omega arith in (
      after_end (weight_tests sig) raws i ends c.loop-raw.invariant.clean,
      c.from_vec.ensures
          ∙ all-made sig 0 (weight_in sig raws) c.loop-raw.weights.items c.loop-raw.invariant.as_many
          (λ f lt. c.loop-raw.invariant.weights f lt ∙ ap (λ ws. weight_in sig ws f) (take_all i raws ends)),
    )
