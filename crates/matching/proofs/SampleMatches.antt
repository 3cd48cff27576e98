-- Matches of a few sums.
use Rattle.std.proofs.Common.{◌≡◌, ◌↔◌, inl, inr, ℕ, zero, suc, List, [], ◌∷◌, Option, Some, true, false, refl, ap}
use Rattle.std.proofs.Common.{arith}
use Rattle.std.specs.Option.{IsSome}
use Rattle.term_core.specs.Tree.{Tree, var, tree_size}
use Rattle.term_core.specs.Variables.{Occurs}
use Rattle.spec_core.specs.Naturals.{zero_term, succ_term, plus_term}
use Rattle.substitutions.specs.Substitution.{entry, image}
use Rattle.matching.specs.Matching.{IsMatch, HasNoMatch}

abbrev both_bound : List (Option Tree)
both_bound = Some zero_term ∷ Some (succ_term (var 0)) ∷ []

bound : (n : ℕ) → IsSome (entry both_bound n) ↔ Occurs n (plus_term (var 0) (var 1))
bound zero = (λ _. inl refl, λ _. refl)
bound (suc zero) = (λ _. inr (inl refl), λ _. refl)
bound (suc (suc n)) = (λ h. absurd (let q : false ≡ true = h in cc), λ o. absurd (far o))
  where
    far : Occurs (suc (suc n)) (plus_term (var 0) (var 1)) → ⊥
    far (inl e) = omega arith
    far (inr (inl e)) = omega arith
    far (inr (inr e)) = e

pub matched : IsMatch (plus_term (var 0) (var 1)) (plus_term zero_term (succ_term (var 0))) both_bound
matched = (refl, bound)

pub one_too_many : IsMatch (succ_term (var 0)) (succ_term zero_term) (Some zero_term ∷ Some zero_term ∷ []) → ⊥
one_too_many h = elim ((h.1 1).0 refl) [ inl e ↦ (let k : ◌≡◌ {A = ℕ} 1 0 = e in omega arith) | inr e ↦ e ]

pub not_matched : HasNoMatch (plus_term (var 0) (var 0)) (plus_term zero_term (succ_term zero_term))
not_matched s e =
    let k : plus_term (image s 0) (image s 0) ≡ plus_term zero_term (succ_term zero_term) = e in
    let h : zero_term ≡ succ_term zero_term = cc in
    omega (arith, ap (λ t. tree_size t) h)
