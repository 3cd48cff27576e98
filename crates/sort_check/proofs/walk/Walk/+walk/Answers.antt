use Rattle.std.proofs.Common.{rules, Err, ◌≡◌, ◌<◌, sym, subst, arith, []}
use Rattle.term_core.specs.declared.ids.SymId.{SymId}
use Rattle.spec_core.specs.Findings.{Clean}
use Rattle.spec_grammar.specs.RawTree.{raw_trees}
use Rattle.spec_grammar.specs.RawMeasure.{weight, list_weight}
use Rattle.sort_check.specs.Answers.{Tells}
use Rattle.sort_check.specs.Words.{term_tests, terms_tests, entries_after_all}
use Rattle.sort_check.specs.Over.{AreOverBehind}
use Rattle.sort_check.proofs.Telling.{answer_err}
use Rattle.sort_check.proofs.Walks.{name_none, name_some, unknown_found, symbol_fault, args_fault, app_over, walk_more}
use Rattle.sort_check.proofs.Walks.{at_args, as_many, args_fall, rest_falls, as_long}
use Rattle.sort_check.proofs.walk.Walk.+walk.Goals as goal

pub term-returns-then-len-ne0-clause-answer : goal.term-returns-then-len-ne0-clause-answer
term-returns-then-len-ne0-clause-answer t c =
    let sig = c.args.self.now.sig.now in
    let k = name_none sig (λ (f : SymId). f.0) c.symbol.result c.as_bytes.result.now c.raw.inside.name
    c.symbol.ensures c.as_bytes.ensures c.in-None.is in
    let h = unknown_found sig c.args.self.now.part c.args.entries.now.items c.args.wrong c.args.place
    c.raw.inside.name c.raw.inside.at c.raw.inside.args c.args.raw.now c.raw.view_is k (search rules) in
    subst (λ e. Tells (term_tests sig c.args.self.now.part c.args.entries.now.items c.args.wrong c.args.raw.now
    c.args.place) e) (sym c.fault.ensures) h

pub term-returns-in_err-check_symbol-in-Some-clause-answer :
    goal.term-returns-in_err-check_symbol-in-Some-clause-answer
term-returns-in_err-check_symbol-in-Some-clause-answer t c =
    let sig = c.args.self.now.sig.now in
    let k = name_some sig (λ (f : SymId). f.0) c.symbol.result c.in-Some.sym c.as_bytes.result.now
    c.raw.inside.name c.symbol.ensures c.as_bytes.ensures c.in-Some.is in
    let e = c.in_err-check_symbol-in-Some.field-0.0 in
    let q : c.from_residual-in_err-check_symbol-in-Some.result ≡ Err e = search rules in
    answer_err _ _ c.from_residual-in_err-check_symbol-in-Some.result e q
    (symbol_fault sig c.args.self.now.part c.args.entries.now.items c.args.wrong c.args.place
    c.raw.inside.name c.raw.inside.at c.raw.inside.args c.args.raw.now c.raw.view_is e c.in-Some.sym.0
    c.len-in-Some.result (search rules) k c.in_err-check_symbol-in-Some.ensures)

pub term-returns-in_err-terms-in-Some-clause-answer :
    goal.term-returns-in_err-terms-in-Some-clause-answer
term-returns-in_err-terms-in-Some-clause-answer t c =
    let sig = c.args.self.now.sig.now in
    let es = c.args.entries.now.items in
    let k = name_some sig (λ (f : SymId). f.0) c.symbol.result c.in-Some.sym c.as_bytes.result.now
    c.raw.inside.name c.symbol.ensures c.as_bytes.ensures c.in-Some.is in
    let e = c.in_err-terms-in-Some.field-0.0 in
    let q : c.from_residual-in_err-terms-in-Some.result ≡ Err e = search rules in
    let f = at_args sig c.in-Some.sym.0 c.info.result.now c.as_slice.result.now c.raw.inside.args
    c.as_slice-sorts.result.now (λ rs ss. Tells (terms_tests sig c.args.self.now.part es rs ss) e)
    c.info.ensures c.as_slice.ensures c.as_slice-sorts.ensures c.in_err-terms-in-Some.ensures.answer in
    answer_err _ _ c.from_residual-in_err-terms-in-Some.result e q
    (args_fault sig c.args.self.now.part es c.args.wrong c.args.place c.raw.inside.name c.raw.inside.at
    c.raw.inside.args c.args.raw.now c.raw.view_is e c.in-Some.sym.0 c.len-in-Some.result (search rules) k
    c.in_ok-check_symbol-in-Some.ensures.0 f)

pub term-returns-in_ok-terms-in-Some-clause-answer :
    goal.term-returns-in_ok-terms-in-Some-clause-answer
term-returns-in_ok-terms-in-Some-clause-answer t c =
    let sig = c.args.self.now.sig.now in
    let es = c.args.entries.now.items in
    let k = name_some sig (λ (f : SymId). f.0) c.symbol.result c.in-Some.sym c.as_bytes.result.now
    c.raw.inside.name c.symbol.ensures c.as_bytes.ensures c.in-Some.is in
    let f = c.in-Some.sym.0 in
    let a = c.in_ok-terms-in-Some.ensures.answer in
    let empty : c.in_ok-made-in-Some.made ≡ [] = search rules in
    app_over sig c.args.self.now.part es c.args.wrong c.args.place c.raw.inside.name c.raw.inside.at
    c.raw.inside.args c.args.raw.now c.raw.view_is f c.len-in-Some.result c.terms.new.entries.items
    c.terms.new.made c.app.result (search rules) k c.in_ok-check_symbol-in-Some.ensures.0
    (at_args sig f c.info.result.now c.as_slice.result.now c.raw.inside.args c.as_slice-sorts.result.now
    (λ rs ss. Clean (terms_tests sig c.args.self.now.part es rs ss)) c.info.ensures c.as_slice.ensures
    c.as_slice-sorts.ensures a.0)
    (at_args sig f c.info.result.now c.as_slice.result.now c.raw.inside.args c.as_slice-sorts.result.now
    (λ rs ss. c.terms.new.entries.items ≡ entries_after_all sig es rs ss) c.info.ensures c.as_slice.ensures
    c.as_slice-sorts.ensures a.1.0)
    (at_args sig f c.info.result.now c.as_slice.result.now c.raw.inside.args c.as_slice-sorts.result.now
    (λ rs ss. AreOverBehind sig c.terms.new.entries.items rs [] c.terms.new.made) c.info.ensures
    c.as_slice.ensures c.as_slice-sorts.ensures
    (subst (λ ts. AreOverBehind sig c.terms.new.entries.items (raw_trees c.as_slice.result.now) ts
    c.terms.new.made) empty a.1.1))
    c.app.ensures

pub term-terms-requires : goal.term-terms-requires
term-terms-requires t c =
    let h : list_weight c.as_slice.result.now < weight c.args.raw.now = subst
    (λ xs. list_weight xs < weight c.args.raw.now) (sym c.as_slice.ensures)
    (args_fall c.raw.inside.args c.raw.inside.name c.raw.inside.at c.args.raw.now c.raw.view_is) in (
      omega (arith, h),
      (
        search rules,
        as_many c.args.self.now.sig.now c.args.self.now.part c.args.wrong c.raw.inside.at c.in-Some.sym.0
            c.len-in-Some.result c.args.place c.info.result.now c.as_slice.result.now c.raw.inside.args
            c.as_slice-sorts.result.now c.info.ensures c.as_slice.ensures c.as_slice-sorts.ensures (search rules)
            c.in_ok-check_symbol-in-Some.ensures.0,
      ),
    )

pub terms-terms-requires : goal.terms-terms-requires
terms-terms-requires t c = (
  omega (
    arith,
    (rest_falls c.args.raws.now c.in-Some-Some.raws.now c.in-Some-Some.raw.now
        (search rules)).1,
  ),
  (
    search rules,
    as_long c.args.raws.now c.in-Some-Some.raws.now c.args.sorts.now c.in-Some-Some.sorts.now
        c.in-Some-Some.raw.now c.in-Some-Some.sort.now c.requires.long (search rules) (search rules),
  ),
)

pub terms-returns-in_ok-push-in-Some-Some-clause-answer :
    goal.terms-returns-in_ok-push-in-Some-Some-clause-answer
terms-returns-in_ok-push-in-Some-Some-clause-answer t c =
    walk_more c.args.self.now.sig.now c.args.self.now.part c.args.entries.now.items c.term.new.entries.items
    c.terms.new.entries.items c.args.raws.now c.in-Some-Some.raws.now c.args.sorts.now
    c.in-Some-Some.sorts.now c.in-Some-Some.raw.now c.in-Some-Some.sort.now c.in_ok-term-in-Some-Some.term
    c.args.made.now c.push.new.self c.terms.new.made c.terms.result (search rules) (search rules)
    c.in_ok-term-in-Some-Some.ensures.answer (search rules) c.terms.ensures.answer
