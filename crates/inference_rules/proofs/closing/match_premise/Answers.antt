use Rattle.std.proofs.Common.{◌≡◌, true, false, inl, inr, refl}
use Rattle.spec_core.specs.declared.records.Equation.{Equation}
use Rattle.clause_core.specs.Equations.{IsEither}
use Rattle.clause_core.proofs.OneAnswer.{forth, back}
use Rattle.inference_rules.proofs.closing.match_premise.Goals as goal

-- an equation is another one, and so if both are the same as these
either_forth : {e d f g : Equation} → e ≡ f → d ≡ g → IsEither e d → IsEither f g
either_forth {d = d} {f = f} p q h = forth (λ x. IsEither f x) q (forth (λ x. IsEither x d) p h)

either_back : {e d f g : Equation} → e ≡ f → d ≡ g → IsEither f g → IsEither e d
either_back {e = e} {g = g} p q h = back (λ x. IsEither e x) q (back (λ x. IsEither x g) p h)

pub returns-then-not-is_either : goal.returns-then-not-is_either
returns-then-not-is_either c = λ spec. inl (
  (c.in-Some.ensures.0, c.in-Some-equation.ensures.0),
  inr (
    λ same. let e : false ≡ true = c.if-not-is_either.ensures.1
        (either_forth c.in-Some.ensures.1 c.in-Some-equation.ensures.1 same) in cc,
    refl,
  ),
)

pub returns : goal.returns
returns c = λ spec. inl (
  (c.in-Some.ensures.0, c.in-Some-equation.ensures.0),
  inl (
    either_back c.in-Some.ensures.1 c.in-Some-equation.ensures.1 (c.if-not-is_either.ensures.0 refl),
    c.closed.ensures c.args.clause.now,
  ),
)
