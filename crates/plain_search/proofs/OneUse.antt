-- A term has one leftmost-innermost use at most: one place and one rule.
use Rattle.std.proofs.Common.{◌≡◌, ℕ, zero, suc, ◌<◌, ◌⊎◌, inl, inr, List, [], ◌∷◌, refl, sym, subst, arith}
use Rattle.term_core.specs.Tree.{Tree}
use Rattle.term_core.specs.Places.{IsAt}
use Rattle.term_core.proofs.Paths.{one_subterm}
use Rattle.spec_core.specs.declared.records.Spec.{Spec}
use Rattle.normalization.specs.Uses.{Use}
use Rattle.normalization.specs.FirstUses.{Before, IsFirstUse}

numbers : (i j : ℕ) → (i ≡ j) ⊎ ((i < j) ⊎ (j < i))
numbers zero zero = inl refl
numbers zero (suc j) = inr (inl (omega arith))
numbers (suc i) zero = inr (inr (omega arith))
numbers (suc i) (suc j) = elim (numbers i j) as (λ _. (suc i ≡ suc j) ⊎ ((suc i < suc j) ⊎ (suc j < suc i))) [
  | inl e ↦ inl (omega (arith, e))
  | inr r ↦ elim r as (λ _. (suc i ≡ suc j)
      ⊎ ((suc i < suc j) ⊎ (suc j < suc i))) [ inl l ↦ inr (inl (omega arith)) | inr g ↦ inr (inr (omega arith)) ]
]

compared_more : (i j : ℕ) (p q : List ℕ) → (i ≡ j) ⊎ ((i < j) ⊎ (j < i)) → (p ≡ q) ⊎ (Before p q ⊎ Before q p) →
    ((i ∷ p) ≡ (j ∷ q)) ⊎ (Before (i ∷ p) (j ∷ q) ⊎ Before (j ∷ q) (i ∷ p))
compared_more i j p q (inr (inl less)) r = inr (inl (inl less))
compared_more i j p q (inr (inr more)) r = inr (inr (inl more))
compared_more i j p q (inl e) (inl s) = inl (cc)
compared_more i j p q (inl e) (inr (inl b)) = inr (inl (inr (e, b)))
compared_more i j p q (inl e) (inr (inr b)) = inr (inr (inr (sym e, b)))

-- of two places one comes before the other, or they are the same
compared : (p q : List ℕ) → (p ≡ q) ⊎ (Before p q ⊎ Before q p)
compared [] [] = inl refl
compared [] (j ∷ q) = inr (inr tt)
compared (i ∷ p) [] = inr (inl tt)
compared (i ∷ p) (j ∷ q) = compared_more i j p q (numbers i j) (compared p q)

same_number : (spec : Spec) (t u v : Tree) (p q : List ℕ) (k l : ℕ) → (a : IsFirstUse spec t p k u) →
    (b : IsFirstUse spec t q l v) → p ≡ q → k ≡ l
same_number spec t u v p q k l a b e =
    let o : b.old ≡ a.old = one_subterm p t b.old a.old (subst (λ x. IsAt x t b.old) (sym e) b.at) a.at in
    elim (numbers k l) as (λ _. k ≡ l) [
      | inl same ↦ same
      | inr r ↦ elim r as (λ _. k ≡ l) [
        | inl less ↦ absurd (b.least k a.new less (subst (λ x. Use spec k x a.new) (sym o) a.rule))
        | inr more ↦
            absurd (a.least l b.new more (subst (λ x. Use spec l x b.new) o b.rule))
      ]
    ]

pub one_place_and_rule : (spec : Spec) (t u v : Tree) (p q : List ℕ) (k l : ℕ) → IsFirstUse spec t p k u →
    IsFirstUse spec t q l v → (p ≡ q) × (k ≡ l)
one_place_and_rule spec t u v p q k l a b =
    elim (compared p q) as (λ _. (p ≡ q) × (k ≡ l)) [
      | inl e ↦ (e, same_number spec t u v p q k l a b e)
      | inr r ↦ elim r as (λ _. (p ≡ q) × (k ≡ l)) [
        | inl before ↦ absurd (b.first p a.old before a.at k a.new a.rule)
        | inr after ↦ absurd (a.first q b.old after b.at l b.new b.rule)
      ]
    ]
