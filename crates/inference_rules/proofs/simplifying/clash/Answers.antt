use Rattle.std.proofs.Common.{◌≡◌, true, false, inl, inr, refl, ◌∙◌, ap}
use Rattle.spec_core.specs.declared.records.Equation.{Equation}
use Rattle.clause_core.specs.declared.clauses.Relation.TheVariants.{Less}
use Rattle.clause_core.specs.Clashes.{Clash}
use Rattle.clause_core.specs.NumberedEquations.{exchanged}
use Rattle.clause_core.proofs.OneAnswer.{forth, back}
use Rattle.inference_rules.proofs.Simplified.{one_child, clash_answered}
use Rattle.inference_rules.proofs.simplifying.clash.Goals as goal

pub returns-then-not-clashes : goal.returns-then-not-clashes
returns-then-not-clashes c = inl (
  c.in-Some.ensures.0,
  inr (
    λ clash. let e : false ≡ true = c.if-not-clashes.ensures.1
        (forth (λ (x : Equation). Clash c.args.spec.now.sig x.left x.right) c.in-Some.ensures.1 clash) in cc,
    refl,
  ),
)

pub returns : goal.returns
returns c =
    let at = c.in-Some.ensures.0 in
    clash_answered c.args.spec.now c.args.clause.now c.args.number
    at (back (λ (x : Equation). Clash c.args.spec.now.sig x.left x.right) c.in-Some.ensures.1
    (c.if-not-clashes.ensures.0 refl)) c.related_alone.result
    (one_child c.args.clause.now Less c.in_ok-child.child _ c.related_alone.result
    (c.in_ok-child.ensures at ∙ ap (λ es. exchanged true c.args.clause.now at es) c.new.ensures.items)
    (c.related_alone.ensures c.args.clause.now))
