use Rattle.std.proofs.Common.{◌≡◌, ◌+◌, ℕ, [], Some, None, Option, ap, sym, ◌∙◌, subst, add-one, arith}
use Rattle.std.specs.Global.{Vec}
use Rattle.std.proofs.lemmas.Option.{slice_get_within}
use Rattle.term_core.specs.Tree.{app, var, trees_of}
use Rattle.term_core.specs.View.{tree_of}
use Rattle.normalization.specs.Found.{IsFound}
use Rattle.normalization.specs.FirstUses.{IsFirstUse}
use Rattle.normalization.specs.NormalForms.{IsNormal}
use Rattle.normalization.specs.Firsts.{HasFirst}
use Rattle.normalization.proofs.NormalTerms.{variable_normal}
use Rattle.normalization.proofs.Fine.{parts}
use Rattle.normalization.proofs.Steps.{root_use, args_stuck_normal}
use Rattle.substitutions.specs.Substitution.{apply}
use Rattle.normalization.proofs.Searching.{inserted_first, next_normal, first_in_argument, arguments_normal}
use Rattle.normalization.proofs.rewriter.Rewriter.+first_use.Goals as goal

pub returns-in_default : goal.returns-in_default
returns-in_default t c =
    let e : var c.in_default.field-0.0 ≡ c.args.term.now = ap tree_of (sym c.in_default.is) ∙ c.term.view_is in
    subst (λ x. IsNormal c.args.self.now x) e (variable_normal c.args.self.now c.requires.fine c.in_default.field-0.0)

pub overflow_cast-index : goal.overflow_cast-index
overflow_cast-index t c =
    let e : app c.in-App.field-0.0 (trees_of c.in-App.args) ≡ c.args.term.now = ap tree_of (sym c.in-App.is)
    ∙ c.term.view_is in
    let p = parts c.in-App.field-0.0 c.in-App.args c.as_slice-arg-items.result.now c.args.term.now e
    c.as_slice-arg-items.ensures c.requires.narrow in
    omega (arith, p.few, c.loop-index-test.true)

pub overflow_add-index : goal.overflow_add-index
overflow_add-index t c =
    let e : app c.in-App.field-0.0 (trees_of c.in-App.args) ≡ c.args.term.now = ap tree_of (sym c.in-App.is)
    ∙ c.term.view_is in
    let p = parts c.in-App.field-0.0 c.in-App.args c.as_slice-arg-items.result.now c.args.term.now e
    c.as_slice-arg-items.ensures c.requires.narrow in
    omega (arith, p.few, c.loop-index-test.true)

pub returns-in-Some : goal.returns-in-Some
returns-in-Some t c =
    let spec = c.args.self.now in
    let e : app c.in-App.field-0.0 (trees_of c.in-App.args) ≡ c.args.term.now = ap tree_of (sym c.in-App.is)
    ∙ c.term.view_is in
    let h : HasFirst spec c.arg-item.result (Some (c.in-Some.place, c.in-Some.number)) = subst
    (λ (o : Option (Vec ℕ × ℕ)). HasFirst spec c.arg-item.result o) c.in-Some.is c.in_ok-place.ensures in
    first_in_argument spec c.in-App.field-0.0 c.in-App.args c.as_slice-arg-items.result.now c.args.term.now
    c.loop-index.index c.arg-item.result h.0 c.in-Some.place.items c.insert.new.self.items c.in-Some.number
    e c.as_slice-arg-items.ensures c.loop-index-test.true c.arg-item.is c.loop-index.invariant h.1
    (inserted_first c.in-Some.place.items c.insert.new.self.items (c.loop-index.index + 1)
    c.in_ok-insert.ensures.items)

pub loop-index-preserved : goal.loop-index-preserved
loop-index-preserved t c =
    let spec = c.args.self.now in
    let h : HasFirst spec c.arg-item.result None = subst
    (λ (o : Option (Vec ℕ × ℕ)). HasFirst spec c.arg-item.result o) c.in_default-2.is c.in_ok-place.ensures in
    next_normal spec c.as_slice-arg-items.result.now c.loop-index.index c.arg-item.result c.arg-item.is h
    c.loop-index.invariant

pub returns-in_default-3 : goal.returns-in_default-3
returns-in_default-3 t c =
    let spec = c.args.self.now in
    let e : app c.in-App.field-0.0 (trees_of c.in-App.args) ≡ c.args.term.now = ap tree_of (sym c.in-App.is)
    ∙ c.term.view_is in
    let s = c.as_slice-arg-items.result.now in
    let p = parts c.in-App.field-0.0 c.in-App.args s c.args.term.now e c.as_slice-arg-items.ensures c.requires.narrow in
    let a = arguments_normal spec c.in-App.field-0.0 c.in-App.args s c.args.term.now e
    c.as_slice-arg-items.ensures p
    (λ j y l at. c.loop-index.invariant j y (omega (arith, l, c.loop-index-test.false)) at) in
    args_stuck_normal spec c.args.term.now a (subst (λ (o : Option ℕ). IsFound spec c.args.term.now o)
    c.in_default-3.is c.in_ok-index.ensures)

pub overflow_cast-result : goal.overflow_cast-result
overflow_cast-result t c =
    let spec = c.args.self.now in
    let the_match : IsFound spec c.args.term.now (Some c.in-Some-2.index) = subst
    (λ (o : Option ℕ). IsFound spec c.args.term.now o) c.in-Some-2.is c.in_ok-index.ensures in
    let found = the_match.1 in
    omega (arith, slice_get_within spec.rules c.in-Some-2.index found.rule found.listed, c.requires.fine.few_rules)

pub overflow_add-result : goal.overflow_add-result
overflow_add-result t c =
    let spec = c.args.self.now in
    let the_match : IsFound spec c.args.term.now (Some c.in-Some-2.index) = subst
    (λ (o : Option ℕ). IsFound spec c.args.term.now o) c.in-Some-2.is c.in_ok-index.ensures in
    let found = the_match.1 in
    omega (arith, slice_get_within spec.rules c.in-Some-2.index found.rule found.listed, c.requires.fine.few_rules)

pub returns : goal.returns
returns t c =
    let spec = c.args.self.now in
    let e : app c.in-App.field-0.0 (trees_of c.in-App.args) ≡ c.args.term.now = ap tree_of (sym c.in-App.is)
    ∙ c.term.view_is in
    let s = c.as_slice-arg-items.result.now in
    let p = parts c.in-App.field-0.0 c.in-App.args s c.args.term.now e c.as_slice-arg-items.ensures c.requires.narrow in
    let a = arguments_normal spec c.in-App.field-0.0 c.in-App.args s c.args.term.now e
    c.as_slice-arg-items.ensures p
    (λ j y l at. c.loop-index.invariant j y (omega (arith, l, c.loop-index-test.false)) at) in
    let the_match : IsFound spec c.args.term.now (Some c.in-Some-2.index) = subst
    (λ (o : Option ℕ). IsFound spec c.args.term.now o) c.in-Some-2.is c.in_ok-index.ensures in
    let found = the_match.1 in
    let w = root_use spec c.args.term.now c.in-Some-2.index the_match.0 a found in (
      apply the_match.0 found.rule.right,
      subst (λ q. IsFirstUse spec c.args.term.now q (c.in-Some-2.index + 1)
          (apply the_match.0 found.rule.right)) (sym c.new.ensures.items)
          (subst (λ k. IsFirstUse spec c.args.term.now [] k (apply the_match.0 found.rule.right))
          (sym (add-one c.in-Some-2.index)) w),
    )
