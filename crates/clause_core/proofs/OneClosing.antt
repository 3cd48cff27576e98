-- `trivial`, `match` and `absurd` say one thing.
use Rattle.std.proofs.Common.{ℕ, refl, sym, subst}
use Rattle.spec_core.specs.declared.records.Equation.{Equation}
use Rattle.spec_core.specs.declared.records.Spec.{Spec}
use Rattle.clause_core.specs.declared.clauses.Clause.{Clause}
use Rattle.clause_core.specs.Equations.{IsEither, IsIdentity}
use Rattle.clause_core.specs.Clashes.{Clash}
use Rattle.clause_core.specs.Closing.{trivial_row, match_row, absurd_row}
use Rattle.clause_core.proofs.OneAnswer.{Agree, forth, back}
use Rattle.clause_core.proofs.OnePlace.{equation_one}

module _ (spec : Spec) (c : Clause) where
  pub trivial_one : (k : ℕ) → Agree (trivial_row spec c k) (trivial_row spec c k)
  trivial_one k = (
    λ p. p,
    λ p. p,
    refl,
    λ at bt. let e = equation_one c.conclusions k at bt in
        (forth IsIdentity e.1, back IsIdentity e.1, refl, λ p q. (refl, refl)),
  )

  pub match_one : (k j : ℕ) → Agree (match_row spec c k j) (match_row spec c k j)
  match_one k j = (
    λ p. p,
    λ p. p,
    refl,
    λ at bt.
        let e = equation_one c.conclusions k at.0 bt.0 in
        let d = equation_one c.premises j at.1 bt.1 in (
          λ p. subst (λ x. IsEither x bt.1.equation) e.1 (subst (λ x. IsEither at.0.equation x) d.1 p),
          λ p. subst (λ x. IsEither x at.1.equation) (sym e.1)
              (subst (λ x. IsEither bt.0.equation x) (sym d.1) p),
          refl,
          λ p q. (refl, refl),
        ),
  )

  pub absurd_one : (j : ℕ) → Agree (absurd_row spec c j) (absurd_row spec c j)
  absurd_one j = (
    λ p. p,
    λ p. p,
    refl,
    λ at bt. let e = equation_one c.premises j at bt in (
      forth (λ (x : Equation). Clash spec.sig x.left x.right) e.1,
      back (λ (x : Equation). Clash spec.sig x.left x.right) e.1,
      refl,
      λ p q. (refl, refl),
    ),
  )
