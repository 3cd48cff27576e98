use Rattle.std.proofs.Common.{◌≡◌, true, false, inl, inr, refl}
use Rattle.clause_core.specs.Equations.{IsIdentity}
use Rattle.clause_core.proofs.OneAnswer.{forth, back}
use Rattle.inference_rules.proofs.closing.trivial.Goals as goal

pub returns-then-not-is_identity : goal.returns-then-not-is_identity
returns-then-not-is_identity c = λ spec. inl (
  c.in-Some.ensures.0,
  inr (
    λ same. let e : false ≡ true = c.if-not-is_identity.ensures.1
        (forth IsIdentity c.in-Some.ensures.1 same) in cc,
    refl,
  ),
)

pub returns : goal.returns
returns c = λ spec. inl (
  c.in-Some.ensures.0,
  inl (back IsIdentity c.in-Some.ensures.1 (c.if-not-is_identity.ensures.0 refl), c.closed.ensures c.args.clause.now),
)
