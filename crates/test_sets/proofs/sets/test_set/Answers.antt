use Rattle.std.proofs.Common.{◌≡◌, ◌∙◌, List, map, length, get_or, ap}
use Rattle.std.proofs.lemmas.List.{get_or_default}
use Rattle.term_core.specs.Tree.{app, trees_of}
use Rattle.term_core.specs.declared.ids.SymId.{SymId}
use Rattle.spec_core.specs.Order.{symbol_number, constructor_numbers}
use Rattle.clause_core.specs.Instances.{variables}
use Rattle.test_sets.proofs.SortConstructors.{symbol_within, applied_next}
use Rattle.test_sets.proofs.sets.test_set.Goals as goal

pub info-requires : goal.info-requires
info-requires c =
    let syms = c.as_slice-sym-items.result.now in
    let k = c.loop-sym.sym-index in
    let numbers : map symbol_number syms ≡ constructor_numbers c.args.sig.now c.args.sort = ap
    (λ (fs : List SymId). map symbol_number fs) c.as_slice-sym-items.ensures ∙ c.in_ok-constructors.ensures in
    let zero : SymId = record { 0 = 0 } in
    let f = get_or syms k zero in
    symbol_within c.args.sig.now c.args.sort syms numbers k f c.loop-sym-test.true
    (get_or_default syms k zero f c.loop-sym-test.true)

pub loop-sym-preserved : goal.loop-sym-preserved
loop-sym-preserved c =
    let syms = c.as_slice-sym-items.result.now in
    let k = c.loop-sym.sym-index in
    let numbers : map symbol_number syms ≡ constructor_numbers c.args.sig.now c.args.sort = ap
    (λ (fs : List SymId). map symbol_number fs) c.as_slice-sym-items.ensures ∙ c.in_ok-constructors.ensures in
    let i = c.info.result.now in
    let zero : SymId = record { 0 = 0 } in
    let f = get_or syms k zero in
    let args : c.len-arguments.result ≡ length i.args = c.len-arguments.ensures in
    c.in_ok-push.ensures.items
    ∙ applied_next c.args.sig.now c.args.sort syms numbers k f i c.loop-sym.made.items c.in_ok-applied.field-0
    c.loop-sym-test.true (get_or_default syms k zero f c.loop-sym-test.true) c.info.ensures c.loop-sym.invariant
    (c.in_ok-applied.ensures ∙ ap (λ n. app f.0 (trees_of (variables 0 n))) args)
