use Rattle.std.proofs.Common.{◌≡◌, ℕ, zero, suc, [], ◌∷◌, refl, ap, ◌∙◌, arith}
use Rattle.std.specs.Prelude.{Any}
use Rattle.term_core.specs.Tree.{app, none, some, instance}
use Rattle.spec_core.specs.Naturals.{zero_term, succ_term}
use Rattle.clause_core.specs.Patterns.{IsInstanceOf}
use Rattle.test_sets.proofs.laws.worked_examples.Goals as goal

not_zero : Any (IsInstanceOf (succ_term zero_term)) (zero_term ∷ []) → ⊥
not_zero (zero, p, lt, at, (ts, e)) =
    let q : app 2 none ≡ app 3 (some (app 2 none) none) = ap (λ t. instance ts t) at ∙ e in
    let f : ◌≡◌ {A = ℕ} 2 3 = cc in
    omega (arith, f)
not_zero (suc k, p, lt, at, e) = omega (arith, lt)

pub returns : goal.returns
returns c = record {
  naturals = refl;
  booleans = refl;
  zero_alone = record {
    value = ((_, refl, refl, ((_, refl, refl, tt), tt)), (omega arith, ((omega arith, tt), tt)));
    missing = not_zero;
    named = c.worked_examples.ensures.zero_alone;
  };
}
