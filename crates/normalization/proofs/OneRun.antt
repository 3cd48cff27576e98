-- A term has one leftmost-innermost use at most, and one normal form.
use Rattle.std.proofs.Common.{◌≡◌, ℕ, zero, suc, ◌<◌, ◌≤◌, ◌⊎◌, inl, inr, length, List, [], ◌∷◌, Some, refl, ap, sym}
use Rattle.std.proofs.Common.{◌∙◌, subst, arith}
use Rattle.std.specs.Prelude.{slice_get}
use Rattle.term_core.specs.Tree.{Tree}
use Rattle.term_core.specs.Places.{IsAt, IsReplaced}
use Rattle.term_core.proofs.Paths.{one_subterm, one_replacement}
use Rattle.spec_core.specs.declared.records.Rule.{Rule}
use Rattle.spec_core.specs.declared.records.Spec.{Spec}
use Rattle.spec_core.specs.WellSorted.{IsWellSorted, sorts_of}
use Rattle.spec_core.proofs.Determined.{occurs_within}
use Rattle.substitutions.specs.Substitution.{apply}
use Rattle.substitutions.proofs.Instances.{apply_same, images_agree}
use Rattle.normalization.specs.Uses.{Use}
use Rattle.normalization.specs.FirstUses.{Before, IsFirstUse}
use Rattle.normalization.specs.NormalForms.{IsNormal, Runs}

numbers : (i j : ℕ) → (i ≡ j) ⊎ ((i < j) ⊎ (j < i))
numbers zero zero = inl refl
numbers zero (suc j) = inr (inl (omega arith))
numbers (suc i) zero = inr (inr (omega arith))
numbers (suc i) (suc j) = elim (numbers i j) as (λ _. (suc i ≡ suc j) ⊎ ((suc i < suc j) ⊎ (suc j < suc i))) [
  | inl e ↦ inl (omega (arith, e))
  | inr r ↦ elim r as (λ _. (suc i ≡ suc j)
      ⊎ ((suc i < suc j) ⊎ (suc j < suc i))) [ inl l ↦ inr (inl (omega arith)) | inr g ↦ inr (inr (omega arith)) ]
]

compared_more : (i j : ℕ) (p q : List ℕ) → (i ≡ j) ⊎ ((i < j) ⊎ (j < i)) → (p ≡ q) ⊎ (Before p q ⊎ Before q p) →
    ((i ∷ p) ≡ (j ∷ q)) ⊎ (Before (i ∷ p) (j ∷ q) ⊎ Before (j ∷ q) (i ∷ p))
compared_more i j p q (inr (inl less)) r = inr (inl (inl less))
compared_more i j p q (inr (inr more)) r = inr (inr (inl more))
compared_more i j p q (inl e) (inl s) = inl (cc)
compared_more i j p q (inl e) (inr (inl b)) = inr (inl (inr (e, b)))
compared_more i j p q (inl e) (inr (inr b)) = inr (inr (inr (sym e, b)))

-- of two places one comes before the other, or they are the same
compared : (p q : List ℕ) → (p ≡ q) ⊎ (Before p q ⊎ Before q p)
compared [] [] = inl refl
compared [] (j ∷ q) = inr (inr tt)
compared (i ∷ p) [] = inr (inl tt)
compared (i ∷ p) (j ∷ q) = compared_more i j p q (numbers i j) (compared p q)

-- two uses of one rule at one term make the same term
pub one_new : (spec : Spec) → IsWellSorted spec → (k : ℕ) (t u v : Tree) → Use spec k t u → Use spec k t v → u ≡ v
one_new spec fine k t u v a b =
    let i : a.listed.0 ≡ b.listed.0 = omega (arith, a.listed.1, b.listed.1) in
    let at : slice_get spec.rules a.listed.0 ≡ Some b.rule = subst (λ j. slice_get spec.rules j ≡ Some b.rule)
    (sym i) b.listed.2 in
    let same : Some a.rule ≡ Some b.rule = sym a.listed.2 ∙ at in
    let r : b.rule ≡ a.rule = cc in
    let rule = a.rule in
    let sorted = fine.rules a.listed.0 rule a.listed.2 in
    let left : apply b.entries rule.left ≡ t = subst (λ (x : Rule). apply b.entries x.left ≡ t) r b.left in
    let right : v ≡ apply b.entries rule.right = subst (λ (x : Rule). v ≡ apply b.entries x.right) r b.right in
    let here = apply_same rule.right a.entries b.entries
    (λ n o. images_agree rule.left a.entries b.entries (a.left ∙ sym left) n
    (sorted.bound n (occurs_within spec.sig (sorts_of rule.vars) rule.right sorted.sides.0 sorted.sides.2 n o))) in
    a.right ∙ here ∙ sym right

record SameUse (p q : List ℕ) (k l : ℕ) (u v : Tree) : Type 0 where
  place : p ≡ q
  number : k ≡ l
  term : u ≡ v

same_number : (spec : Spec) (t u v : Tree) (p q : List ℕ) (k l : ℕ) → (a : IsFirstUse spec t p k u) →
    (b : IsFirstUse spec t q l v) → p ≡ q → k ≡ l
same_number spec t u v p q k l a b e =
    let o : b.old ≡ a.old = one_subterm p t b.old a.old (subst (λ x. IsAt x t b.old) (sym e) b.at) a.at in
    elim (numbers k l) as (λ _. k ≡ l) [
      | inl same ↦ same
      | inr r ↦ elim r as (λ _. k ≡ l) [
        | inl less ↦ absurd (b.least k a.new less (subst (λ x. Use spec k x a.new) (sym o) a.rule))
        | inr more ↦
            absurd (a.least l b.new more (subst (λ x. Use spec l x b.new) o b.rule))
      ]
    ]

one_first_use : (spec : Spec) → IsWellSorted spec → (t u v : Tree) (p q : List ℕ) (k l : ℕ) →
    IsFirstUse spec t p k u → IsFirstUse spec t q l v → SameUse p q k l u v
one_first_use spec fine t u v p q k l a b =
    elim (compared p q) as (λ _. SameUse p q k l u v) [
      | inl e ↦ (
          let n = same_number spec t u v p q k l a b e in
          let o : b.old ≡ a.old = one_subterm p t b.old a.old (subst (λ x. IsAt x t b.old) (sym e) b.at) a.at in
          let use_b : Use spec k a.old b.new = subst (λ x. Use spec x a.old b.new) (sym n)
          (subst (λ x. Use spec l x b.new) o b.rule) in
          let new : a.new ≡ b.new = one_new spec fine k a.old a.new b.new a.rule use_b in
          let made : IsReplaced p t a.new v = subst (λ x. IsReplaced p t x v) (sym new)
          (subst (λ x. IsReplaced x t b.new v) (sym e) b.made) in
          record { place = e; number = n; term = one_replacement p t a.new u v a.made made })
      | inr r ↦ elim r as (λ _. SameUse p q k l u v) [
        | inl before ↦ absurd (b.first p a.old before a.at k a.new a.rule)
        | inr after ↦ absurd (a.first q b.old after b.at l b.new b.rule)
      ]
    ]

one_pair : (x w : List ℕ × ℕ) → x.0 ≡ w.0 → x.1 ≡ w.1 → x ≡ w
one_pair x w p q = ap (λ r. (r, x.1)) p ∙ ap (λ k. (w.0, k)) q

-- a normal term has no use
no_use : (spec : Spec) (t u : Tree) (p : List ℕ) (k : ℕ) → IsNormal spec t → IsFirstUse spec t p k u → ⊥
no_use spec t u p k normal a = normal p a.old a.at k a.new a.rule

pub one_normal : (spec : Spec) → IsWellSorted spec → (t u v : Tree) (ws xs : List (List ℕ × ℕ)) →
    Runs spec t ws v → IsNormal spec v → Runs spec t xs u → (length xs ≤ length ws)
    × (IsNormal spec u → (xs ≡ ws) × (u ≡ v))
one_normal spec fine t u v [] [] a normal b = (omega arith, λ _. (refl, b ∙ sym a))
one_normal spec fine t u v [] (x ∷ xs) a normal b = absurd
    (no_use spec t b.0 x.0 x.1 (subst (λ y. IsNormal spec y) a normal) b.1)
one_normal spec fine t u v (w ∷ ws) [] a normal b = (
  omega arith,
  λ other. absurd (no_use spec t a.0 w.0 w.1 (subst (λ y. IsNormal spec y) b other) a.1),
)
one_normal spec fine t u v (w ∷ ws) (x ∷ xs) a normal b =
    let s = one_first_use spec fine t a.0 b.0 w.0 x.0 w.1 x.1 a.1 b.1 in
    let r = one_normal spec fine a.0 u v ws xs a.3 normal (subst (λ y. Runs spec y xs u) (sym s.term) b.3) in
    let same : x ≡ w = one_pair x w (sym s.place) (sym s.number) in
    (omega (arith, r.0), λ other. (ap (λ ys. x ∷ ys) (r.1 other).0 ∙ ap (λ y. y ∷ ws) same, (r.1 other).1))

-- one place and rule lead to one term
pub one_first : (spec : Spec) → IsWellSorted spec → (t u v : Tree) (p : List ℕ) (k : ℕ) →
    IsFirstUse spec t p k u → IsFirstUse spec t p k v → u ≡ v
one_first spec fine t u v p k a b = (one_first_use spec fine t u v p p k k a b).term

-- a term has one use at most, and so one term after it
pub one_after : (spec : Spec) → IsWellSorted spec → (t u v : Tree) (p q : List ℕ) (k l : ℕ) →
    IsFirstUse spec t p k u → IsFirstUse spec t q l v → u ≡ v
one_after spec fine t u v p q k l a b = (one_first_use spec fine t u v p q k l a b).term
