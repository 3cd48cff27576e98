use Rattle.std.proofs.Common.{rules, ◌≡◌, ◌∷◌, [], Err, refl}
use Rattle.std.specs.Prelude.{codes}
use Rattle.spec_grammar.specs.declared.raw.RawSort.{RawSort}
use Rattle.sort_check.specs.Signatures.{sort_names}
use Rattle.sort_check.proofs.Telling.{answer_err}
use Rattle.sort_check.proofs.DeclaringLoops.{behind_next, taking_next, tells_taking, taking_sorts}
use Rattle.sort_check.proofs.declarations.check_sorts.Goals as goal

pub returns-in_err-take_name : goal.returns-in_err-take_name
returns-in_err-take_name c =
    let e = c.in_err-take_name.field-0.0 in
    let q : c.from_residual-in_err-take_name.result ≡ Err e = search rules in
    answer_err _ _ c.from_residual-in_err-take_name.result e q
    (tells_taking taking_sorts (codes "Bool" ∷ []) c.args.raws.now c.loop-raw.raw-index c.raw-item.result
    c.loop-raw.names c.loop-raw-test.true c.raw-item.is c.loop-raw.invariant.made c.loop-raw.invariant.clean
    e c.in_err-take_name.ensures)

pub loop-raw-preserved : goal.loop-raw-preserved
loop-raw-preserved c =
    let h = c.in_ok-take_name.ensures in
    record {
      clean = taking_next taking_sorts (codes "Bool" ∷ []) c.args.raws.now c.loop-raw.raw-index
          c.raw-item.result c.loop-raw.names c.loop-raw-test.true c.raw-item.is c.loop-raw.invariant.made
          c.loop-raw.invariant.clean h.0;
      made = behind_next (λ (s : RawSort). s.head.name ∷ []) sort_names refl (λ s ss. refl) c.args.raws.now
          c.loop-raw.raw-index c.raw-item.result (codes "Bool" ∷ []) c.loop-raw.names c.take_name.new.taken
          c.loop-raw-test.true c.raw-item.is c.loop-raw.invariant.made h.1;
    }
