use Rattle.std.proofs.Common.{◌≡◌, ℕ, ◌-◌, List, Option, map, take, get_or, true, false, ap, ◌∙◌, refl, subst, arith}
use Rattle.std.proofs.lemmas.List.{take_all, get_or_default}
use Rattle.term_core.specs.declared.ids.SortId.{SortId}
use Rattle.term_core.specs.declared.ids.SymId.{SymId}
use Rattle.spec_core.specs.Order.{constructors_of, symbol_number, constructor_numbers}
use Rattle.plain_proof.specs.PlainProofs.{CasesClose}
use Rattle.plain_proof.specs.CaseAnswers.{IsCase}
use Rattle.plain_proof.proofs.SortCases.{as_many, constructor_at, symbol_within, case_at, next_case, no_cases}
use Rattle.plain_proof.proofs.measuring.has_cases.Goals as goal

pub case_length-requires-clause-known : goal.case_length-requires-clause-known
case_length-requires-clause-known c =
    let sig = c.args.split.now.spec.now.sig in
    let syms = c.as_slice-sym-items.result.now in
    let k = c.loop-sym.sym-index in
    let numbers : map symbol_number syms ≡ constructor_numbers sig c.args.sort = ap
    (λ (fs : List SymId). map symbol_number fs) c.as_slice-sym-items.ensures ∙ c.in_ok-constructors.ensures in
    let f = get_or syms k (record { 0 = 0 }) in
    symbol_within sig c.args.sort k f (constructor_at sig c.args.sort syms numbers k f c.loop-sym-test.true
    (get_or_default syms k (record { 0 = 0 }) f c.loop-sym-test.true))

pub overflow_sub-left : goal.overflow_sub-left
overflow_sub-left c =
    let spec = c.args.split.now.spec.now in
    let sig = spec.sig in
    let ctx = c.args.split.now.ctx.now in
    let e = c.args.split.now.equation.now in
    let x = c.args.split.now.var.0 in
    let syms = c.as_slice-sym-items.result.now in
    let k = c.loop-sym.sym-index in
    let left = c.loop-sym.left in
    let numbers : map symbol_number syms ≡ constructor_numbers sig c.args.sort = ap
    (λ (fs : List SymId). map symbol_number fs) c.as_slice-sym-items.ensures ∙ c.in_ok-constructors.ensures in
    let f = get_or syms k (record { 0 = 0 }) in
    let a = constructor_at sig c.args.sort syms numbers k f c.loop-sym-test.true
    (get_or_default syms k (record { 0 = 0 }) f c.loop-sym-test.true) in
    let case = case_at spec c.requires.fine ctx e x c.args.sort k left f c.in_ok-length.field-0 a
    c.in_ok-length.ensures in
    let is = subst (λ (o : Option ℕ). IsCase spec ctx e x a.constructor left o) c.in-Some.is case in
    is.1

pub returns-in-None : goal.returns-in-None
returns-in-None c =
    let spec = c.args.split.now.spec.now in
    let sig = spec.sig in
    let ctx = c.args.split.now.ctx.now in
    let e = c.args.split.now.equation.now in
    let x = c.args.split.now.var.0 in
    let syms = c.as_slice-sym-items.result.now in
    let k = c.loop-sym.sym-index in
    let left = c.loop-sym.left in
    let numbers : map symbol_number syms ≡ constructor_numbers sig c.args.sort = ap
    (λ (fs : List SymId). map symbol_number fs) c.as_slice-sym-items.ensures ∙ c.in_ok-constructors.ensures in
    let f = get_or syms k (record { 0 = 0 }) in
    let a = constructor_at sig c.args.sort syms numbers k f c.loop-sym-test.true
    (get_or_default syms k (record { 0 = 0 }) f c.loop-sym-test.true) in
    let case = case_at spec c.requires.fine ctx e x c.args.sort k left f c.in_ok-length.field-0 a
    c.in_ok-length.ensures in
    let is = subst (λ (o : Option ℕ). IsCase spec ctx e x a.constructor left o) c.in-None.is case in (
      λ t. absurd (let q : false ≡ true = t in cc),
      λ h. absurd (no_cases spec c.requires.fine ctx e x c.args.sort k c.args.most left a.constructor a.within
          a.there c.loop-sym.invariant.0 c.loop-sym.invariant.1 is h),
    )

pub loop-sym-preserved : goal.loop-sym-preserved
loop-sym-preserved c =
    let spec = c.args.split.now.spec.now in
    let sig = spec.sig in
    let ctx = c.args.split.now.ctx.now in
    let e = c.args.split.now.equation.now in
    let x = c.args.split.now.var.0 in
    let syms = c.as_slice-sym-items.result.now in
    let k = c.loop-sym.sym-index in
    let left = c.loop-sym.left in
    let numbers : map symbol_number syms ≡ constructor_numbers sig c.args.sort = ap
    (λ (fs : List SymId). map symbol_number fs) c.as_slice-sym-items.ensures ∙ c.in_ok-constructors.ensures in
    let f = get_or syms k (record { 0 = 0 }) in
    let a = constructor_at sig c.args.sort syms numbers k f c.loop-sym-test.true
    (get_or_default syms k (record { 0 = 0 }) f c.loop-sym-test.true) in
    let case = case_at spec c.requires.fine ctx e x c.args.sort k left f c.in_ok-length.field-0 a
    c.in_ok-length.ensures in
    let is = subst (λ (o : Option ℕ). IsCase spec ctx e x a.constructor left o) c.in-Some.is case in (
      omega (arith, c.loop-sym.invariant.0),
      next_case spec c.requires.fine ctx e x (constructors_of sig c.args.sort) k c.args.most left
          c.in-Some.length a.constructor a.within a.there c.loop-sym.invariant.0 c.loop-sym.invariant.1 is,
    )

pub returns : goal.returns
returns c =
    let spec = c.args.split.now.spec.now in
    let sig = spec.sig in
    let ctx = c.args.split.now.ctx.now in
    let e = c.args.split.now.equation.now in
    let x = c.args.split.now.var.0 in
    let syms = c.as_slice-sym-items.result.now in
    let k = c.loop-sym.sym-index in
    let left = c.loop-sym.left in
    let numbers : map symbol_number syms ≡ constructor_numbers sig c.args.sort = ap
    (λ (fs : List SymId). map symbol_number fs) c.as_slice-sym-items.ensures ∙ c.in_ok-constructors.ensures in
    let cs = constructors_of sig c.args.sort in
    let all : take k cs ≡ cs = take_all k cs (omega (
      arith,
      as_many sig c.args.sort syms numbers,
      c.loop-sym-test.false,
    )) in (
      λ t. (
        c.args.most - left,
        subst (λ (ds : List (ℕ × List SortId)). CasesClose spec ctx e x ds (c.args.most - left)) all
            c.loop-sym.invariant.1,
        omega arith,
      ),
      λ h. refl,
    )
