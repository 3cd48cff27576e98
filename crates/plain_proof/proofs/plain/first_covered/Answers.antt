use Rattle.std.proofs.Common.{◌≡◌, get_or, true, false, refl, sym, ◌∙◌, arith}
use Rattle.std.proofs.lemmas.List.{get_or_default}
use Rattle.term_core.specs.declared.ids.SortId.{SortId}
use Rattle.plain_proof.proofs.FirstVariables.{is_covered, without_cases, none_next, none_at_all}
use Rattle.plain_proof.proofs.plain.first_covered.Goals as goal

pub loop-index-preserved-then-not-occurs_in : goal.loop-index-preserved-then-not-occurs_in
loop-index-preserved-then-not-occurs_in c =
    none_next c.args.spec.now c.args.ctx.now c.args.equation.now c.args.length c.loop-index.index
    c.loop-index.invariant (λ h. let q : false ≡ true = c.if-not-occurs_in.ensures.1 h.2 in cc)

pub returns-then-branch : goal.returns-then-branch
returns-then-branch c =
    let ctx = c.args.ctx.now in
    let k = c.loop-index.index in
    let s : SortId = get_or ctx k (record { 0 = 0 }) in (
      is_covered c.args.spec.now ctx c.args.equation.now c.args.length k s c.loop-index-test.true
          (get_or_default ctx k (record { 0 = 0 }) s c.loop-index-test.true) (c.if-not-occurs_in.ensures.0 refl)
          (c.in_ok-has_cases.ensures.0 c.if-branch.true),
      c.loop-index.invariant,
    )

pub loop-index-preserved : goal.loop-index-preserved
loop-index-preserved c =
    let ctx = c.args.ctx.now in
    let k = c.loop-index.index in
    let s : SortId = get_or ctx k (record { 0 = 0 }) in
    none_next c.args.spec.now ctx c.args.equation.now c.args.length k c.loop-index.invariant
    (without_cases c.args.spec.now ctx c.args.equation.now c.args.length k s c.loop-index-test.true
    (get_or_default ctx k (record { 0 = 0 }) s c.loop-index-test.true)
    (λ h. let q : false ≡ true = sym c.if-branch.false ∙ c.in_ok-has_cases.ensures.1 h in cc))

pub returns : goal.returns
returns c = none_at_all c.args.spec.now c.args.ctx.now c.args.equation.now c.args.length c.loop-index.index
    (omega (arith, c.loop-index-test.false)) c.loop-index.invariant
