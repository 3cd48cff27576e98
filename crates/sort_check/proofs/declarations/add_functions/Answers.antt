use Rattle.std.proofs.Common.{rules, ◌≡◌, ◌++◌, ◌∙◌, ◌∷◌, [], Err, map, refl}
use Rattle.spec_grammar.specs.declared.raw.RawFun.{RawFun}
use Rattle.sort_check.specs.DeclarationTests.{symbol_tests, sort_test, function_of}
use Rattle.sort_check.proofs.Telling.{answer_err, tells_first, tells_then}
use Rattle.sort_check.proofs.DeclaringLoops.{behind_next, taking_next, tells_taking, taking_functions}
use Rattle.sort_check.proofs.declarations.add_functions.Goals as goal

pub returns-in_err-args : goal.returns-in_err-args
returns-in_err-args c =
    let sorts = c.args.sorts.now in
    let e = c.in_err-args.field-0.0 in
    let q : c.from_residual.result ≡ Err e = search rules in
    let t = tells_first (symbol_tests sorts c.loop-raw.taken c.raw-item.result.head)
    (sort_test sorts c.raw-item.result.result) e c.in_err-args.ensures in
    answer_err _ _ c.from_residual.result e q (tells_taking (taking_functions sorts) c.args.taken.now
    c.args.raws.now c.loop-raw.raw-index c.raw-item.result c.loop-raw.taken c.loop-raw-test.true
    c.raw-item.is c.loop-raw.invariant.taken c.loop-raw.invariant.clean e t)

pub returns-in_err-result : goal.returns-in_err-result
returns-in_err-result c =
    let sorts = c.args.sorts.now in
    let e = c.in_err-result.field-0.0 in
    let q : c.from_residual-in_err-result.result ≡ Err e = search rules in
    let t = tells_then (symbol_tests sorts c.loop-raw.taken c.raw-item.result.head)
    (sort_test sorts c.raw-item.result.result) e c.in_ok-args.ensures.0 c.in_err-result.ensures in
    answer_err _ _ c.from_residual-in_err-result.result e q
    (tells_taking (taking_functions sorts) c.args.taken.now c.args.raws.now c.loop-raw.raw-index
    c.raw-item.result c.loop-raw.taken c.loop-raw-test.true c.raw-item.is c.loop-raw.invariant.taken
    c.loop-raw.invariant.clean e t)

pub loop-raw-preserved : goal.loop-raw-preserved
loop-raw-preserved c =
    let sorts = c.args.sorts.now in
    let h = c.in_ok-args.ensures in
    let made : c.push.new.self ≡ c.loop-raw.made
    ++ function_of sorts c.raw-item.result ∷ [] = c.in_ok-push.ensures.pushed
    ∙ (λ i. c.loop-raw.made
    ++ (c.in_ok-name.ensures i, record { args = h.1.0 i; result = c.in_ok-result.ensures.1 i }) ∷ []) in
    record {
      clean = taking_next (taking_functions sorts) c.args.taken.now c.args.raws.now c.loop-raw.raw-index
          c.raw-item.result c.loop-raw.taken c.loop-raw-test.true c.raw-item.is c.loop-raw.invariant.taken
          c.loop-raw.invariant.clean (h.0, c.in_ok-result.ensures.0);
      made = behind_next (λ (f : RawFun). function_of sorts f ∷ []) (λ fs. map (function_of sorts) fs) refl
          (λ f fs. refl) c.args.raws.now c.loop-raw.raw-index c.raw-item.result [] c.loop-raw.made
          c.push.new.self c.loop-raw-test.true c.raw-item.is c.loop-raw.invariant.made made;
      taken = behind_next (λ (f : RawFun). f.head.name ∷ []) (λ fs. map (λ (f : RawFun). f.head.name) fs) refl
          (λ f fs. refl) c.args.raws.now c.loop-raw.raw-index c.raw-item.result c.args.taken.now
          c.loop-raw.taken c.arguments.new.taken c.loop-raw-test.true c.raw-item.is c.loop-raw.invariant.taken h.1.1;
    }
