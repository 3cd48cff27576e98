use Rattle.std.proofs.Common.{rules, ◌≡◌, ◌++◌, ◌∙◌, ◌∷◌, [], Err, map, refl}
use Rattle.spec_grammar.specs.declared.raw.RawNames.{RawNames}
use Rattle.sort_check.specs.DeclarationTests.{constructor_of}
use Rattle.sort_check.proofs.Telling.{answer_err}
use Rattle.sort_check.proofs.DeclaringLoops.{behind_next, taking_next, tells_taking, taking_constructors}
use Rattle.sort_check.proofs.declarations.add_constructors.Goals as goal

pub returns-in_err-args : goal.returns-in_err-args
returns-in_err-args c =
    let e = c.in_err-args.field-0.0 in
    let q : c.from_residual.result ≡ Err e = search rules in
    answer_err _ _ c.from_residual.result e q
    (tells_taking (taking_constructors c.args.sorts.now) c.args.taken.now c.args.raws.now
    c.loop-raw.raw-index c.raw-item.result c.loop-raw.taken c.loop-raw-test.true c.raw-item.is
    c.loop-raw.invariant.taken c.loop-raw.invariant.clean e c.in_err-args.ensures)

pub loop-raw-preserved : goal.loop-raw-preserved
loop-raw-preserved c =
    let sorts = c.args.sorts.now in
    let of = constructor_of sorts c.args.sort.0 in
    let h = c.in_ok-args.ensures in
    let made : c.push.new.self ≡ c.loop-raw.made ++ of c.raw-item.result ∷ [] = c.in_ok-push.ensures.pushed
    ∙ (λ i. c.loop-raw.made ++ (c.in_ok-name.ensures i, record { args = h.1.0 i; result = c.args.sort }) ∷ []) in
    record {
      clean = taking_next (taking_constructors sorts) c.args.taken.now c.args.raws.now c.loop-raw.raw-index
          c.raw-item.result c.loop-raw.taken c.loop-raw-test.true c.raw-item.is c.loop-raw.invariant.taken
          c.loop-raw.invariant.clean h.0;
      made = behind_next (λ (n : RawNames). of n ∷ []) (λ ns. map of ns) refl (λ n ns. refl) c.args.raws.now
          c.loop-raw.raw-index c.raw-item.result c.args.made.now c.loop-raw.made c.push.new.self
          c.loop-raw-test.true c.raw-item.is c.loop-raw.invariant.made made;
      taken = behind_next (λ (n : RawNames). n.name ∷ []) (λ ns. map (λ (n : RawNames). n.name) ns) refl
          (λ n ns. refl) c.args.raws.now c.loop-raw.raw-index c.raw-item.result c.args.taken.now
          c.loop-raw.taken c.arguments.new.taken c.loop-raw-test.true c.raw-item.is c.loop-raw.invariant.taken h.1.1;
    }
