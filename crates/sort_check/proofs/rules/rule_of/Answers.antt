use Rattle.std.proofs.Common.{rules, Err, List, ◌≡◌, ◌∙◌, sym, ap, subst, refl, []}
use Rattle.spec_core.specs.declared.records.Rule.{Rule}
use Rattle.spec_core.specs.declared.records.VarInfo.{VarInfo}
use Rattle.spec_core.specs.Findings.{Clean, each}
use Rattle.sort_check.specs.Answers.{Tells}
use Rattle.sort_check.specs.Entries.{known_sorts}
use Rattle.sort_check.specs.RuleTests.{guard_tests}
use Rattle.sort_check.specs.Over.{variables_of}
use Rattle.sort_check.specs.Parts.{AreSorted, below_tests, root_name, root_place}
use Rattle.sort_check.specs.Rules.{RuleStands}
use Rattle.sort_check.proofs.Telling.{answer_err}
use Rattle.sort_check.proofs.RuleFacts.{root_long, left_sorted, guards_fault, rule_made, lefts_are, rights_are}
use Rattle.sort_check.proofs.RuleFacts.{guards_are, root_whole}
use Rattle.sort_check.proofs.rules.rule_of.Goals as goal

pub terms-requires-clause-long : goal.terms-requires-clause-long
terms-requires-clause-long c = root_long c.args.sig.now c.args.raw.now (root_name c.args.raw.now.left)
    (root_place c.args.raw.now.left) c.args.sym.0 c.arguments-raws.result.now
    (root_whole c.args.raw.now.left c.arguments-raws.result.now c.arguments-raws.ensures) c.requires
    c.info-info.result.now c.arguments-raws.result.now c.as_slice.result.now c.info-info.ensures refl c.as_slice.ensures

pub guards-requires-clause-sorted : goal.guards-requires-clause-sorted
guards-requires-clause-sorted c =
    let sig = c.args.sig.now in
    let raw = c.args.raw.now in
    let f = c.args.sym.0 in
    let xs = c.arguments-raws.result.now in
    let i = c.info-info.result.now in
    let empty : c.in_ok-args.args ≡ [] = search rules in
    let lefts = lefts_are sig raw (root_name c.args.raw.now.left) (root_place c.args.raw.now.left) f xs
    (root_whole c.args.raw.now.left c.arguments-raws.result.now c.arguments-raws.ensures) c.requires
    c.new-entries.result.items c.terms.new.entries.items c.arguments-raws.result.now c.as_slice.result.now
    c.in_ok-args.args c.terms.new.made i c.info-info.ensures c.new-entries.ensures.items empty refl
    c.as_slice.ensures c.in_ok-terms.ensures.answer in
    let sorted = left_sorted sig raw (root_name c.args.raw.now.left) (root_place c.args.raw.now.left) f xs
    (root_whole c.args.raw.now.left c.arguments-raws.result.now c.arguments-raws.ensures) c.requires
    c.terms.new.entries.items lefts.1.0 in
    let rights = rights_are sig raw (root_name c.args.raw.now.left) (root_place c.args.raw.now.left) f xs
    (root_whole c.args.raw.now.left c.arguments-raws.result.now c.arguments-raws.ensures) c.requires
    c.terms.new.entries.items c.term.new.entries.items i.result c.in_ok-right.right i c.info-info.ensures
    refl sorted c.in_ok-right.ensures.answer in
    subst (λ es. AreSorted es) (sym rights.1.0) sorted

pub returns-in_err-guards : goal.returns-in_err-guards
returns-in_err-guards c =
    let sig = c.args.sig.now in
    let raw = c.args.raw.now in
    let f = c.args.sym.0 in
    let xs = c.arguments-raws.result.now in
    let i = c.info-info.result.now in
    let empty : c.in_ok-args.args ≡ [] = search rules in
    let lefts = lefts_are sig raw (root_name c.args.raw.now.left) (root_place c.args.raw.now.left) f xs
    (root_whole c.args.raw.now.left c.arguments-raws.result.now c.arguments-raws.ensures) c.requires
    c.new-entries.result.items c.terms.new.entries.items c.arguments-raws.result.now c.as_slice.result.now
    c.in_ok-args.args c.terms.new.made i c.info-info.ensures c.new-entries.ensures.items empty refl
    c.as_slice.ensures c.in_ok-terms.ensures.answer in
    let sorted = left_sorted sig raw (root_name c.args.raw.now.left) (root_place c.args.raw.now.left) f xs
    (root_whole c.args.raw.now.left c.arguments-raws.result.now c.arguments-raws.ensures) c.requires
    c.terms.new.entries.items lefts.1.0 in
    let rights = rights_are sig raw (root_name c.args.raw.now.left) (root_place c.args.raw.now.left) f xs
    (root_whole c.args.raw.now.left c.arguments-raws.result.now c.arguments-raws.ensures) c.requires
    c.terms.new.entries.items c.term.new.entries.items i.result c.in_ok-right.right i c.info-info.ensures
    refl sorted c.in_ok-right.ensures.answer in
    let es = c.terms.new.entries.items in
    let e = c.in_err-guards.field-0.0 in
    let q : c.from_residual-in_err-guards.result ≡ Err e = search rules in
    let h : Tells (each (guard_tests sig es) raw.guards) e = subst
    (λ rs. Tells (each (guard_tests sig es) rs) e) c.as_slice-2.ensures
    (subst (λ vs. Tells (each (guard_tests sig vs) c.as_slice-2.result.now) e) rights.1.0
    c.in_err-guards.ensures.answer) in
    answer_err (below_tests sig raw.left raw) (λ (rule : Rule). RuleStands sig raw rule)
    c.from_residual-in_err-guards.result e q
    (guards_fault sig raw (root_name c.args.raw.now.left) (root_place c.args.raw.now.left) f xs
    (root_whole c.args.raw.now.left c.arguments-raws.result.now c.arguments-raws.ensures) c.requires es
    lefts.1.0 lefts.0 e rights.0 h)

pub variables_of_rule-requires : goal.variables_of_rule-requires
variables_of_rule-requires c =
    let sig = c.args.sig.now in
    let raw = c.args.raw.now in
    let f = c.args.sym.0 in
    let xs = c.arguments-raws.result.now in
    let i = c.info-info.result.now in
    let empty : c.in_ok-args.args ≡ [] = search rules in
    let lefts = lefts_are sig raw (root_name c.args.raw.now.left) (root_place c.args.raw.now.left) f xs
    (root_whole c.args.raw.now.left c.arguments-raws.result.now c.arguments-raws.ensures) c.requires
    c.new-entries.result.items c.terms.new.entries.items c.arguments-raws.result.now c.as_slice.result.now
    c.in_ok-args.args c.terms.new.made i c.info-info.ensures c.new-entries.ensures.items empty refl
    c.as_slice.ensures c.in_ok-terms.ensures.answer in
    let sorted = left_sorted sig raw (root_name c.args.raw.now.left) (root_place c.args.raw.now.left) f xs
    (root_whole c.args.raw.now.left c.arguments-raws.result.now c.arguments-raws.ensures) c.requires
    c.terms.new.entries.items lefts.1.0 in
    let rights = rights_are sig raw (root_name c.args.raw.now.left) (root_place c.args.raw.now.left) f xs
    (root_whole c.args.raw.now.left c.arguments-raws.result.now c.arguments-raws.ensures) c.requires
    c.terms.new.entries.items c.term.new.entries.items i.result c.in_ok-right.right i c.info-info.ensures
    refl sorted c.in_ok-right.ensures.answer in
    let tests = guards_are sig raw (root_name c.args.raw.now.left) (root_place c.args.raw.now.left) f xs
    (root_whole c.args.raw.now.left c.arguments-raws.result.now c.arguments-raws.ensures) c.requires
    c.terms.new.entries.items c.term.new.entries.items c.guards.new.entries.items c.as_slice-2.result.now
    c.in_ok-guards.guards rights.1.0 c.as_slice-2.ensures c.in_ok-guards.ensures.answer in
    subst (λ es. AreSorted es) (sym (c.deref.ensures.value ∙ tests.1.0)) sorted

pub returns : goal.returns
returns c =
    let sig = c.args.sig.now in
    let raw = c.args.raw.now in
    let f = c.args.sym.0 in
    let xs = c.arguments-raws.result.now in
    let i = c.info-info.result.now in
    let empty : c.in_ok-args.args ≡ [] = search rules in
    let lefts = lefts_are sig raw (root_name c.args.raw.now.left) (root_place c.args.raw.now.left) f xs
    (root_whole c.args.raw.now.left c.arguments-raws.result.now c.arguments-raws.ensures) c.requires
    c.new-entries.result.items c.terms.new.entries.items c.arguments-raws.result.now c.as_slice.result.now
    c.in_ok-args.args c.terms.new.made i c.info-info.ensures c.new-entries.ensures.items empty refl
    c.as_slice.ensures c.in_ok-terms.ensures.answer in
    let sorted = left_sorted sig raw (root_name c.args.raw.now.left) (root_place c.args.raw.now.left) f xs
    (root_whole c.args.raw.now.left c.arguments-raws.result.now c.arguments-raws.ensures) c.requires
    c.terms.new.entries.items lefts.1.0 in
    let rights = rights_are sig raw (root_name c.args.raw.now.left) (root_place c.args.raw.now.left) f xs
    (root_whole c.args.raw.now.left c.arguments-raws.result.now c.arguments-raws.ensures) c.requires
    c.terms.new.entries.items c.term.new.entries.items i.result c.in_ok-right.right i c.info-info.ensures
    refl sorted c.in_ok-right.ensures.answer in
    let es = c.terms.new.entries.items in
    let tests = guards_are sig raw (root_name c.args.raw.now.left) (root_place c.args.raw.now.left) f xs
    (root_whole c.args.raw.now.left c.arguments-raws.result.now c.arguments-raws.ensures) c.requires es
    c.term.new.entries.items c.guards.new.entries.items c.as_slice-2.result.now c.in_ok-guards.guards
    rights.1.0 c.as_slice-2.ensures c.in_ok-guards.ensures.answer in
    let made = rule_made sig raw (root_name c.args.raw.now.left) (root_place c.args.raw.now.left) f xs
    (root_whole c.args.raw.now.left c.arguments-raws.result.now c.arguments-raws.ensures) c.requires es
    lefts.1.0 lefts.0 c.terms.new.made c.app.result c.in_ok-right.right c.in_ok-guards.guards (search rules)
    lefts.1.1 c.app.ensures rights.0 rights.1.1 tests.0 tests.1.1 in
    let vars : c.in_ok-variables_of_rule.field-0 ≡ variables_of es
    (known_sorts es) = c.in_ok-variables_of_rule.ensures.1 ∙ ap (λ xs. variables_of xs (known_sorts xs))
    (c.deref.ensures.value ∙ tests.1.0) in
    subst (λ (vs : List VarInfo). Clean (below_tests sig raw.left raw)
    × RuleStands sig raw (record {
      vars = vs;
      left = c.app.result;
      right = c.in_ok-right.right;
      guards = c.in_ok-guards.guards;
    })) (sym vars) made
