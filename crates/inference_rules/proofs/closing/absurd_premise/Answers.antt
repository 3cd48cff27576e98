use Rattle.std.proofs.Common.{◌≡◌, true, false, inl, inr, refl}
use Rattle.spec_core.specs.declared.records.Equation.{Equation}
use Rattle.clause_core.specs.Clashes.{Clash}
use Rattle.clause_core.proofs.OneAnswer.{forth, back}
use Rattle.inference_rules.proofs.closing.absurd_premise.Goals as goal

pub returns-then-not-clashes : goal.returns-then-not-clashes
returns-then-not-clashes c = inl (
  c.in-Some.ensures.0,
  inr (
    λ clash. let e : false ≡ true = c.if-not-clashes.ensures.1
        (forth (λ (x : Equation). Clash c.args.spec.now.sig x.left x.right) c.in-Some.ensures.1 clash) in cc,
    refl,
  ),
)

pub returns : goal.returns
returns c = inl (
  c.in-Some.ensures.0,
  inl (
    back (λ (x : Equation). Clash c.args.spec.now.sig x.left x.right) c.in-Some.ensures.1
        (c.if-not-clashes.ensures.0 refl),
    c.closed.ensures c.args.clause.now,
  ),
)
