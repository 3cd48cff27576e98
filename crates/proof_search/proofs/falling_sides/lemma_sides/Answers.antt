use Rattle.std.proofs.Common.{ℕ, [], ◌∷◌, true, false, inl, inr, refl, sym, subst, length}
use Rattle.std.specs.Prelude.{◌<◌}
use Rattle.term_core.specs.Tree.{trees_of}
use Rattle.term_core.specs.Variables.{OccursAny}
use Rattle.spec_core.specs.declared.records.Equation.{Equation}
use Rattle.fitting_lists.specs.Answering.{AreVariables}
use Rattle.fitting_lists.specs.Fitting.{both_sides}
use Rattle.proof_search.specs.FallingSides.{Permutes}
use Rattle.proof_search.proofs.FallingSteps.{falling_variables, side_given}
use Rattle.proof_search.proofs.falling_sides.lemma_sides.Goals as goal

-- the variables of both sides, if each side has them all
both_variables :
    (count : ℕ) (e : Equation) → AreVariables count (e.left ∷ []) →
    AreVariables count (e.right ∷ []) → AreVariables count (both_sides e)
both_variables count e left right n = (within, λ lt. there ((left n).1 lt))
  where
    within : OccursAny n (trees_of (both_sides e)) → n < count
    within (inl o) = (left n).0 (inl o)
    within (inr o) = (right n).0 o

    there : OccursAny n (trees_of (e.left ∷ [])) → OccursAny n (trees_of (both_sides e))
    there (inl o) = inl o
    there (inr o) = absurd o

pub permutes-requires : goal.permutes-requires
permutes-requires g c =
    let above = g.O.TermOrder.above c.args.order.now in
    let d = c.args.clause.now in
    let e = c.in-Some.equation.now in
    let sides = c.falling_sides-sides.result in
    let variables = falling_variables above d sides c.falling_sides-sides.ensures e c.in-Some.ensures
    c.requires.0 c.requires.1 in
    subst (λ (n : ℕ). AreVariables n (both_sides e)) (sym c.len.ensures)
    (both_variables (length d.ctx) e (variables true c.if-not-sides.false)
    (variables false c.if-not-sides-2.false))

pub returns : goal.returns
returns g c =
    let above = g.O.TermOrder.above c.args.order.now in
    let d = c.args.clause.now in
    let e = c.in-Some.equation.now in
    inr (record {
      left = refl;
      right = refl;
      premises = c.is_empty.ensures.0 c.if-not-is_empty.false;
      equation = e;
      alone = c.in-Some.ensures;
      variables =
          side_given above d c.falling_sides-sides.result c.falling_sides-sides.ensures e
          c.in-Some.ensures true c.if-not-sides.false;
      permutes =
          subst (λ (n : ℕ). Permutes n e) c.len.ensures
          (c.in_ok-permutes.ensures.0 c.if-not-branch.false);
    })
