use Rattle.std.proofs.Common.{rules, ◌≡◌, ◌++◌, ◌∷◌, [], Err, map, refl}
use Rattle.spec_core.proofs.Findings.{each_next}
use Rattle.spec_grammar.specs.declared.raw.RawName.{RawName}
use Rattle.sort_check.specs.DeclarationTests.{sort_test, sort_number}
use Rattle.sort_check.proofs.Telling.{answer_err}
use Rattle.sort_check.proofs.DeclaringLoops.{tells_each, behind_next}
use Rattle.sort_check.proofs.declarations.sorts_named.Goals as goal

pub returns-in_err-sort_named : goal.returns-in_err-sort_named
returns-in_err-sort_named c =
    let e = c.in_err-sort_named.field-0.0 in
    let q : c.from_residual.result ≡ Err e = search rules in
    answer_err _ _ c.from_residual.result e q (tells_each (sort_test c.args.sorts.now) c.args.raws.now
    c.loop-raw.raw-index c.raw-item.result e c.loop-raw-test.true c.raw-item.is c.loop-raw.invariant.clean
    c.in_err-sort_named.ensures)

pub loop-raw-preserved : goal.loop-raw-preserved
loop-raw-preserved c =
    let sorts = c.args.sorts.now in
    let h = c.in_ok-sort_named.ensures in
    let made : c.push.new.self ≡ c.loop-raw.found ++ sort_number sorts c.raw-item.result ∷ [] = cc (
      h.1,
      c.in_ok-push.ensures.pushed,
    ) in
    record {
      clean = each_next (sort_test sorts) c.args.raws.now c.loop-raw.raw-index c.raw-item.result
          c.loop-raw-test.true c.raw-item.is c.loop-raw.invariant.clean h.0;
      made = behind_next (λ (n : RawName). sort_number sorts n ∷ []) (λ ns. map (sort_number sorts) ns) refl
          (λ n ns. refl) c.args.raws.now c.loop-raw.raw-index c.raw-item.result [] c.loop-raw.found
          c.push.new.self c.loop-raw-test.true c.raw-item.is c.loop-raw.invariant.made made;
    }
