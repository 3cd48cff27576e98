use Rattle.std.proofs.Common.{◌≡◌, List, [], ◌∷◌, length, get_or, refl, ap, ◌∙◌, arith}
use Rattle.term_core.proofs.Items.{if_ok_map}
use Rattle.spec_core.specs.declared.records.Equation.{Equation}
use Rattle.spec_core.specs.declared.records.VarInfo.{VarInfo}
use Rattle.spec_core.specs.WellSorted.{sorts_of}
use Rattle.plain_proof.proofs.FirstVariables.{first_of_goal, one_item}
use Rattle.plain_proof.proofs.plain.first_plain.Goals as goal

pub returns : goal.returns
returns c =
    let spec = c.args.spec.now in
    let g = c.args.goal.now in
    let e = c.index-as_slice-0.result in
    let none : g.premises ≡ [] = c.if-not-is_empty.ensures.0 refl in
    let long : length g.conclusions ≡ 1 = omega (arith, c.len.ensures, c.if-len-ne1.false) in
    let is : g.conclusions ≡ e ∷ [] = one_item g.conclusions e long (c.index-as_slice-0.is
    ∙ ap (λ (es : List Equation). get_or es 0 e) c.as_slice.ensures) in
    let ctx : c.deref.result.now ≡ sorts_of g.vars = c.deref.ensures.value ∙ c.in_ok-ctx.ensures
    ∙ ap (λ (vs : List VarInfo). sorts_of vs) c.as_slice-2.ensures in
    let small = c.in_ok-are_within.ensures.0 c.if-not-branch.false in
    if_ok_map c.first_covered.result _ _ (λ found h. first_of_goal spec g e c.args.length none is small
    c.deref.result.now ctx found h) c.first_covered.ensures
