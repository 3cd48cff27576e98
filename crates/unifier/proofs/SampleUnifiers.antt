-- Unifiers of a few sums.
use Rattle.std.proofs.Common.{◌≡◌, ◌≤◌, ◌+◌, ◌^◌, inl, inr, ℕ, zero, suc, List, [], ◌∷◌, Option, Some, None, refl, ap}
use Rattle.std.proofs.Common.{◌∙◌, subst, arith}
use Rattle.term_core.specs.Tree.{Tree, var, tree_size}
use Rattle.term_core.specs.Variables.{Occurs}
use Rattle.spec_core.specs.Naturals.{zero_term, succ_term, plus_term}
use Rattle.substitutions.specs.Substitution.{image, apply}
use Rattle.substitutions.proofs.Instances.{composed_from_images}
use Rattle.unifier.specs.Unification.{IsUnifier, HaveNoUnifier, IsMostGeneral, IsRelevant}
use Rattle.unifier.specs.Shifting.{HasTooLarge}

pub not_general : IsMostGeneral (var 0) (var 1) (Some zero_term ∷ Some zero_term ∷ []) → ⊥
not_general h =
    let w = h.general (Some (var 1) ∷ []) refl in
    let e : var 1 ≡ zero_term = w.1 (var 0) in
    cc

pub general : IsMostGeneral (var 0) (var 1) (Some (var 1) ∷ [])
general = record { unifies = refl; general = λ t is. (t, composed_from_images (Some (var 1) ∷ []) t t (images t is)) }
  where
    images : (t : List (Option Tree)) → IsUnifier (var 0) (var 1) t → (n : ℕ) →
        image t n ≡ apply t (image (Some (var 1) ∷ []) n)
    images t is zero = is
    images t is (suc n) = refl

pub relevant : IsRelevant (var 0) (var 1) (Some (var 1) ∷ [])
relevant zero t e = (
  inl refl,
  λ m o. inr (let k : Some (var 1) ≡ Some t = e in let q : t ≡ var 1 = cc in
      subst (λ u. Occurs m u) q o),
)
relevant (suc n) t e = absurd (let k : None ≡ Some t = e in cc)

pub not_relevant : IsRelevant (var 0) (var 1) (Some (var 1) ∷ None ∷ Some (var 3) ∷ Some (var 2) ∷ []) → ⊥
not_relevant h = elim (h 2 (var 3) refl).0 [
  | inl e ↦ (let k : ◌≡◌ {A = ℕ} 2 0 = e in omega arith)
  | inr e ↦
      (let k : ◌≡◌ {A = ℕ} 2 1 = e in omega arith)
]

abbrev both_zeros : List (Option Tree)
both_zeros = Some (succ_term zero_term) ∷ Some zero_term ∷ []

pub sums : IsMostGeneral (plus_term (var 0) zero_term) (plus_term (succ_term (var 1)) (var 1)) both_zeros
sums = record { unifies = refl; general = λ t is. (t, composed_from_images both_zeros t t (images t is)) }
  where
    images : (t : List (Option Tree)) →
        IsUnifier (plus_term (var 0) zero_term) (plus_term (succ_term (var 1)) (var 1)) t → (n : ℕ) →
        image t n ≡ apply t (image both_zeros n)
    images t is zero =
        let k : plus_term (image t 0) zero_term ≡ plus_term (succ_term (image t 1)) (image t 1) = is in
        let y : image t 1 ≡ zero_term = cc in
        let x : image t 0 ≡ succ_term (image t 1) = cc in
        x ∙ ap (λ u. succ_term u) y
    images t is (suc zero) =
        let k : plus_term (image t 0) zero_term ≡ plus_term (succ_term (image t 1)) (image t 1) = is in
        let y : image t 1 ≡ zero_term = cc in
        y
    images t is (suc (suc n)) = refl

pub clash : HaveNoUnifier zero_term (succ_term (var 0))
clash s e =
    let k : zero_term ≡ succ_term (image s 0) = e in
    cc

pub occurs : HaveNoUnifier (var 0) (succ_term (var 0))
occurs s e =
    let k : image s 0 ≡ succ_term (image s 0) = e in
    omega (arith, ap (λ t. tree_size t) k)

pub too_large : HasTooLarge 1 (var 4294967295)
too_large = (4294967295, refl, omega arith)

pub not_too_large : HasTooLarge 1 (var 4294967294) → ⊥
not_too_large w =
    let e : w.0 ≡ 4294967294 = w.1 in
    let h : 2 ^ 32 ≤ w.0 + 1 = w.2 in
    omega arith
