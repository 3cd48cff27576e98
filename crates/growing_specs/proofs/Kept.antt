-- Being admitted is about symbols and rules alone; the first goals of a well sorted specification are fine, and
-- so are all of them with one more that may be added.
use Rattle.std.proofs.Common.{◌≡◌, ◌≤◌, ◌⊎◌, ◌++◌, ◌∙◌, inl, inr, ℕ, zero, suc, List, [], ◌∷◌, None, Some}
use Rattle.std.proofs.Common.{length, take, sym, ap, subst, arith, length-append}
use Rattle.std.specs.Prelude.{slice_get}
use Rattle.term_core.specs.Tree.{Tree}
use Rattle.spec_core.specs.WellSorted.{IsWellSorted, GoalIsSorted}
use Rattle.spec_core.specs.declared.records.Goal.{Goal}
use Rattle.spec_core.specs.declared.records.Spec.{Spec}
use Rattle.clause_core.specs.Admitted.{IsAdmitted}
use Rattle.bank_core.proofs.Ends.{at_end}
use Rattle.growing_specs.specs.Growing.{MayBeAdded, with_goals}

pub still_admitted : (above : Tree → Tree → Type 0) (spec : Spec) (goals : List Goal) → IsAdmitted above spec →
    IsAdmitted above (with_goals spec goals)
still_admitted above spec goals a = record {
  linear = a.linear;
  ordered = a.ordered;
  apart = a.apart;
  whole = a.whole;
  covering = a.covering;
}

pub taken_at : {X : Type 0} (xs : List X) (n k : ℕ) (x : X) → slice_get (take n xs) k ≡ Some x →
    slice_get xs k ≡ Some x
taken_at [] zero k x at = at
taken_at [] (suc n) k x at = at
taken_at (y ∷ xs) zero k x at = absurd (let q : None ≡ Some x = at in cc)
taken_at (y ∷ xs) (suc n) zero x at = at
taken_at (y ∷ xs) (suc n) (suc k) x at = taken_at xs n k x at

taken_few : {X : Type 0} (xs : List X) (n : ℕ) → length (take n xs) ≤ length xs
taken_few [] zero = omega arith
taken_few [] (suc n) = omega arith
taken_few (x ∷ xs) zero = omega arith
taken_few (x ∷ xs) (suc n) = let e = taken_few xs n in omega (arith, e)

pub first_sorted : (spec : Spec) (n : ℕ) → IsWellSorted spec → IsWellSorted (with_goals spec (take n spec.goals))
first_sorted spec n fine = record {
  order = fine.order;
  signature = fine.signature;
  arities = fine.arities;
  rules = fine.rules;
  goals = λ k goal at. fine.goals k goal (taken_at spec.goals n k goal at);
  names = λ j k g h one other. fine.names j k g h (taken_at spec.goals n j g one) (taken_at spec.goals n k h other);
  few_rules = fine.few_rules;
  few_goals = let e = taken_few spec.goals n in let f = fine.few_goals in omega (arith, e, f);
}

module _ (spec : Spec) (goal : Goal) (fine : IsWellSorted spec) (may : MayBeAdded spec goal) where
  sorted_at : (k : ℕ) (g : Goal) → (slice_get spec.goals k ≡ Some g) ⊎ ((k ≡ length spec.goals) × (goal ≡ g)) →
      GoalIsSorted spec.sig g
  sorted_at k g (inl at) = fine.goals k g at
  sorted_at k g (inr e) = subst (λ x. GoalIsSorted spec.sig x) e.1 may.sorted

  one_place : (j k : ℕ) (g h : Goal) → (slice_get spec.goals j ≡ Some g) ⊎ ((j ≡ length spec.goals) × (goal ≡ g)) →
      (slice_get spec.goals k ≡ Some h) ⊎ ((k ≡ length spec.goals) × (goal ≡ h)) → g.name ≡ h.name → j ≡ k
  one_place j k g h (inl a) (inl b) same = fine.names j k g h a b same
  one_place j k g h (inl a) (inr b) same = absurd (may.new j g a (same ∙ sym (ap (λ (x : Goal). x.name) b.1)))
  one_place j k g h (inr a) (inl b) same = absurd (may.new k h b (sym same ∙ sym (ap (λ (x : Goal). x.name) a.1)))
  one_place j k g h (inr a) (inr b) same = a.0 ∙ sym b.0

  pub more_sorted : IsWellSorted (with_goals spec (spec.goals ++ goal ∷ []))
  more_sorted = record {
    order = fine.order;
    signature = fine.signature;
    arities = fine.arities;
    rules = fine.rules;
    goals = λ k g at. sorted_at k g (at_end spec.goals goal g k at);
    names = λ j k g h one other. one_place j k g h (at_end spec.goals goal g j one) (at_end spec.goals goal h k other);
    few_rules = fine.few_rules;
    few_goals = let e = length-append spec.goals (goal ∷ []) in let f = may.few in omega (arith, e, f);
  }
