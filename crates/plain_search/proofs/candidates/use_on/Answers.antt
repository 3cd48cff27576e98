use Rattle.std.proofs.Common.{◌≡◌, List, Option, Some, ap, sym, ◌∙◌, subst}
use Rattle.std.specs.Prelude.{ℕ, slice_get}
use Rattle.std.specs.Global.{Vec}
use Rattle.spec_core.specs.declared.records.Equation.{Equation}
use Rattle.clause_core.specs.declared.steps.Step.TheVariants.{Rule}
use Rattle.normalization.specs.Firsts.{HasFirst}
use Rattle.normalization.specs.FirstUses.{IsFirstUse}
use Rattle.normalization.specs.Narrow.{IsNarrow}
use Rattle.normalization.specs.NormalForms.{IsNormal}
use Rattle.plain_search.specs.Choices.{place_in}
use Rattle.plain_search.proofs.Uses.{side_narrow, side_normal, side_used}
use Rattle.plain_search.proofs.candidates.use_on.Goals as goal

-- the first conclusion, by the slice of all
first_at : (own slice : List Equation) (e : Equation) → slice ≡ own → Some e ≡ slice_get slice 0 →
    slice_get own 0 ≡ Some e
first_at own slice e same at = ap (λ es. slice_get es 0) (sym same) ∙ sym at

pub first_use-requires-clause-narrow : goal.first_use-requires-clause-narrow
first_use-requires-clause-narrow c =
    let e = c.in-Some.conclusion.now in
    let at = first_at c.args.here.now.conclusions c.as_slice.result.now e c.as_slice.ensures c.in-Some.ensures.value in
    subst (λ t. IsNarrow t) (sym c.side.ensures) (side_narrow c.args.rewriter.now c.args.here.now c.args.left e
    at c.requires.fine c.requires.sorted)

pub returns-in-None : goal.returns-in-None
returns-in-None c =
    let spec = c.args.rewriter.now in
    let e = c.in-Some.conclusion.now in
    let at = first_at c.args.here.now.conclusions c.as_slice.result.now e c.as_slice.ensures c.in-Some.ensures.value in
    let h : IsNormal spec c.side.result.now = subst (λ (o : Option (Vec ℕ × ℕ)). HasFirst spec c.side.result.now
    o) c.in-None.is c.in_ok-first_use.ensures in
    side_normal spec c.args.here.now c.args.left e at (subst (λ t. IsNormal spec t) c.side.ensures h)

pub returns-in-Some-2 : goal.returns-in-Some-2
returns-in-Some-2 c =
    let spec = c.args.rewriter.now in
    let left = c.args.left in
    let e = c.in-Some.conclusion.now in
    let path = c.in-Some-2.path.items in
    let number = c.in-Some-2.number in
    let at = first_at c.args.here.now.conclusions c.as_slice.result.now e c.as_slice.ensures c.in-Some.ensures.value in
    let h = subst (λ (o : Option (Vec ℕ × ℕ)). HasFirst spec c.side.result.now o) c.in-Some-2.is
    c.in_ok-first_use.ensures in
    let first = subst (λ t. IsFirstUse spec t path number h.0) c.side.ensures h.1 in
    side_used spec c.args.here.now left e at path number h.0 first
    (Rule (place_in left c.from_vec.result) number) (ap (λ p. Rule (place_in left p) number) c.from_vec.ensures)
