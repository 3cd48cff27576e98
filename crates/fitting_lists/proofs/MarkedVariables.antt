-- What walks over terms mark, one after the other, and what it means that all is marked.
use Rattle.std.proofs.Common.{◌≡◌, ℕ, zero, suc, ◌<◌, ◌≤◌, ◌⊎◌, ◌↔◌, List, [], ◌∷◌, ◌++◌, drop, Bool, true, false}
use Rattle.std.proofs.Common.{IsTrue, inl, inr, refl, sym, ◌∙◌, ap, subst, length, get_or, take, arith}
use Rattle.std.specs.Prelude.{replicate}
use Rattle.term_core.specs.Tree.{Tree, trees_of}
use Rattle.term_core.specs.Variables.{Occurs, OccursAny}
use Rattle.spec_core.specs.declared.records.Equation.{Equation}
use Rattle.clause_core.specs.declared.clauses.Clause.{Clause}
use Rattle.fitting_lists.specs.Fitting.{both_sides, has_all}
use Rattle.fitting_lists.specs.Marks.{IsMarked, MarksMore}
use Rattle.fitting_lists.proofs.VariableTests.{all_found, all_occur}

-- the variables of one term more
module _ (n : ℕ) where
  -- the variable is in the first terms, this many of them
  abbrev InFirst : List Tree → ℕ → Type 0
  InFirst ts i = OccursAny n (trees_of (take i ts))

  from_first :
      (ts : List Tree) (i : ℕ) (t : Tree) → i < length ts → t ≡ get_or ts i t →
      InFirst ts (suc i) → InFirst ts i ⊎ Occurs n t
  from_first [] i t lt is h = absurd (omega arith)
  from_first (u ∷ us) zero t lt is (inl h) = inr (subst (λ x. Occurs n x) (sym is) h)
  from_first (u ∷ us) zero t lt is (inr h) = absurd h
  from_first (u ∷ us) (suc i) t lt is (inl h) = inl (inl h)
  from_first (u ∷ us) (suc i) t lt is (inr h) =
      elim (from_first us i t (omega arith) is h)
      as (λ _. InFirst (u ∷ us) (suc i) ⊎ Occurs n t) [
        | inl k ↦ inl (inr k)
        | inr k ↦ inr k
      ]

  to_first :
      (ts : List Tree) (i : ℕ) (t : Tree) → i < length ts → t ≡ get_or ts i t →
      InFirst ts i ⊎ Occurs n t → InFirst ts (suc i)
  to_first [] i t lt is h = absurd (omega arith)
  to_first (u ∷ us) zero t lt is (inl h) = absurd h
  to_first (u ∷ us) zero t lt is (inr h) = inl (subst (λ x. Occurs n x) is h)
  to_first (u ∷ us) (suc i) t lt is (inl (inl h)) = inl h
  to_first (u ∷ us) (suc i) t lt is (inl (inr h)) =
      inr (to_first us i t (omega arith) is (inl h))
  to_first (u ∷ us) (suc i) t lt is (inr h) = inr (to_first us i t (omega arith) is (inr h))

-- what two walks mark, the one after the other
pub marks_both :
    (old mid new : List Bool) (P Q R : ℕ → Type 0) → MarksMore old mid P → MarksMore mid new Q →
    ((n : ℕ) → R n ↔ (P n ⊎ Q n)) → MarksMore old new R
marks_both old mid new P Q R p q both = record {
  places = q.places ∙ p.places;
  marked = λ n. (λ m. forth n ((q.marked n).0 m), λ m. (q.marked n).1 (back n m));
}
  where
    forth : (n : ℕ) → IsMarked mid n ⊎ Q n → IsMarked old n ⊎ R n
    forth n (inr h) = inr ((both n).1 (inr h))
    forth n (inl m) =
        elim ((p.marked n).0 m) as (λ _. IsMarked old n ⊎ R n) [
          | inl k ↦ inl k
          | inr k ↦ inr ((both n).1 (inl k))
        ]

    back : (n : ℕ) → IsMarked old n ⊎ R n → IsMarked mid n ⊎ Q n
    back n (inl m) = inl ((p.marked n).1 (inl m))
    back n (inr h) =
        elim ((both n).0 h) as (λ _. IsMarked mid n ⊎ Q n) [
          | inl k ↦ inl ((p.marked n).1 (inr k))
          | inr k ↦ inr k
        ]

-- one term more
pub marks_term :
    (old mid new : List Bool) (ts : List Tree) (i : ℕ) (t : Tree) → i < length ts →
    t ≡ get_or ts i t → MarksMore old mid (λ n. OccursAny n (trees_of (take i ts))) →
    MarksMore mid new (λ n. Occurs n t) →
    MarksMore old new (λ n. OccursAny n (trees_of (take (suc i) ts)))
marks_term old mid new ts i t lt is p q =
    marks_both old mid new (λ n. InFirst n ts i) (λ n. Occurs n t) (λ n. InFirst n ts (suc i)) p q
    (λ n. (from_first n ts i t lt is, to_first n ts i t lt is))

-- both sides of an equation
pub marks_sides :
    (old mid new : List Bool) (e : Equation) → MarksMore old mid (λ n. Occurs n e.left) →
    MarksMore mid new (λ n. Occurs n e.right) →
    MarksMore old new (λ n. OccursAny n (trees_of (both_sides e)))
marks_sides old mid new e p q =
    marks_both old mid new (λ n. Occurs n e.left) (λ n. Occurs n e.right)
    (λ n. OccursAny n (trees_of (both_sides e))) p q (λ n. (split n, joined n))
  where
    split :
        (n : ℕ) → OccursAny n (trees_of (both_sides e)) → Occurs n e.left ⊎ Occurs n e.right
    split n (inl h) = inl h
    split n (inr (inl h)) = inr h
    split n (inr (inr h)) = absurd h

    joined :
        (n : ℕ) → Occurs n e.left ⊎ Occurs n e.right → OccursAny n (trees_of (both_sides e))
    joined n (inl h) = inl h
    joined n (inr h) = inr (inl h)

-- in a list without marks no variable has its mark
unmarked : (count n : ℕ) → n < count → IsMarked (replicate count false) n → ⊥
unmarked zero n lt m = absurd (omega arith)
unmarked (suc count) zero lt m = let q : false ≡ true = m in cc
unmarked (suc count) (suc n) lt m = unmarked count n (omega arith) m

no_place : (count n : ℕ) → count ≤ n → IsMarked (replicate count false) n
no_place zero n le = refl
no_place (suc count) zero le = absurd (omega arith)
no_place (suc count) (suc n) le = no_place count n (omega arith)

module _ (c : Clause) (old new : List Bool) (none : old ≡ replicate (length c.ctx) false) where
  abbrev count : ℕ
  count = length c.ctx

  abbrev AllMarked : Type 0
  AllMarked = (n : ℕ) → IsMarked new n

  module _ (occurs : ℕ → Type 0) (marks : MarksMore old new occurs) where
    all_met : AllMarked → (n : ℕ) → n < count → occurs n
    all_met all n lt =
        elim ((marks.marked n).0 (all n)) as (λ _. occurs n) [
          | inl m ↦ absurd (unmarked count n lt (subst (λ ms. IsMarked ms n) none m))
          | inr o ↦ o
        ]

    all_marked : ((n : ℕ) → n < count → occurs n) → AllMarked
    all_marked met n =
        elim (order n count) as (λ _. IsMarked new n) [
          | inl lt ↦ (marks.marked n).1 (inr (met n lt))
          | inr le ↦
              (marks.marked n).1
              (inl (subst (λ ms. IsMarked ms n) (sym none) (no_place count n le)))
        ]
      where
        order : (n k : ℕ) → (n < k) ⊎ (k ≤ n)
        order n zero = inr (omega arith)
        order zero (suc k) = inl (omega arith)
        order (suc n) (suc k) =
            elim (order n k) as (λ _. (suc n < suc k) ⊎ (suc k ≤ suc n)) [
              | inl lt ↦ inl (omega (arith, lt))
              | inr le ↦ inr (omega (arith, le))
            ]

  -- the left side of an equation has them all
  pub left_has_all :
      (e : Equation) → MarksMore old new (λ n. Occurs n e.left) → AllMarked →
      true ≡ has_all c (both_sides e)
  left_has_all e marks all =
      sym (all_found c (both_sides e) (λ n lt. inl (all_met (λ n. Occurs n e.left) marks all n lt)))

  -- whether its sides do is whether all is marked after both
  pub sides_have_all :
      (e : Equation) (r : Bool) → MarksMore old new (λ n. OccursAny n (trees_of (both_sides e))) →
      IsTrue r ↔ AllMarked → r ≡ has_all c (both_sides e)
  sides_have_all e r marks tells =
      same_tests r (has_all c (both_sides e))
      (λ is. all_found c (both_sides e) (all_met InSides marks (tells.0 is)))
      (λ is. tells.1 (all_marked InSides marks (all_occur c (both_sides e) is)))
    where
      InSides : ℕ → Type 0
      InSides n = OccursAny n (trees_of (both_sides e))

      same_tests : (a b : Bool) → (a ≡ true → b ≡ true) → (b ≡ true → a ≡ true) → a ≡ b
      same_tests true b f g = sym (f refl)
      same_tests false true f g = g refl
      same_tests false false f g = refl

-- the marks of a vector that were written as a slice
pub written_back :
    (count : ℕ) (old new : List Bool) → length old ≡ count → length new ≡ count →
    take count (new ++ drop (length new) old) ≡ new
written_back zero [] [] p q = refl
written_back zero (x ∷ xs) new p q = absurd (omega arith)
written_back zero [] (y ∷ ys) p q = absurd (omega arith)
written_back (suc count) [] new p q = absurd (omega arith)
written_back (suc count) (x ∷ xs) [] p q = absurd (omega arith)
written_back (suc count) (x ∷ xs) (y ∷ ys) p q =
    ap (λ ms. y ∷ ms) (written_back count xs ys (omega arith) (omega arith))
