-- The tests of all variables find just those that occur.
use Rattle.std.proofs.Common.{◌≡◌, ℕ, zero, suc, ◌+◌, ◌<◌, ◌≤◌, ◌==◌, ◌⊎◌, List, [], ◌∷◌, Bool, true, false, ◌&&◌}
use Rattle.std.proofs.Common.{◌||◌, inl, inr, refl, ap, sym, ◌∙◌, arith, length}
use Rattle.std.specs.List.{range_with_len, list_any, list_all}
use Rattle.std.proofs.lemmas.Bool.{eqb-true}
use Rattle.std.proofs.lemmas.Bool.Decides.{eqb_tells}
use Rattle.std.proofs.lemmas.List.Folds.{list_any-append}
use Rattle.term_core.specs.Tree.{Tree, Trees, var, app, none, some, trees_of}
use Rattle.term_core.specs.Variables.{occurrences, occurrences_all, Occurs, OccursAny}
use Rattle.clause_core.specs.declared.clauses.Clause.{Clause}
use Rattle.fitting_lists.specs.Fitting.{has_all}

never : {X : Type 0} → false ≡ true → X
never e = cc

both : (a b : Bool) → (a && b) ≡ true → (a ≡ true) × (b ≡ true)
both true b e = (refl, e)
both false b e = never e

both_true : (a b : Bool) → a ≡ true → b ≡ true → (a && b) ≡ true
both_true true b p q = q
both_true false b p q = never p

either : (a b : Bool) → (a || b) ≡ true → (a ≡ true) ⊎ (b ≡ true)
either true b e = inl refl
either false b e = inr e

left_true : (a b : Bool) → a ≡ true → (a || b) ≡ true
left_true a b e = ap (λ x. x || b) e

right_true : (a b : Bool) → b ≡ true → (a || b) ≡ true
right_true true b e = refl
right_true false b e = e

no_other : (b : Bool) → (b ≡ true → ⊥) → b ≡ false
no_other true h = absurd (h refl)
no_other false h = refl

module _ (n : ℕ) where
  -- the test whether the variable is in a term
  abbrev pub stands_in : Tree → Bool
  stands_in t = list_any (λ m. m == n) (occurrences t)

  abbrev stands_in_any : Trees → Bool
  stands_in_any ts = list_any (λ m. m == n) (occurrences_all ts)

  stands_in_some :
      (t : Tree) (ts : Trees) → stands_in_any (some t ts) ≡ (stands_in t || stands_in_any ts)
  stands_in_some t ts = list_any-append (λ m. m == n) (occurrences t) (occurrences_all ts)

  mutual
    occurs_from : (t : Tree) → stands_in t ≡ true → Occurs n t
    occurs_from (var m) e =
        elim (either (m == n) false e) as (λ _. n ≡ m) [
          | inl q ↦ sym (eqb-true m n q)
          | inr q ↦ never q
        ]
    occurs_from (app f ts) e = occurs_any_from ts e

    occurs_any_from : (ts : Trees) → stands_in_any ts ≡ true → OccursAny n ts
    occurs_any_from none e = never e
    occurs_any_from (some t ts) e =
        let q = sym (stands_in_some t ts) ∙ e in
        elim (either (stands_in t) (stands_in_any ts) q) as (λ _. OccursAny n (some t ts)) [
          | inl q ↦ inl (occurs_from t q)
          | inr q ↦ inr (occurs_any_from ts q)
        ]

  mutual
    found_in : (t : Tree) → Occurs n t → stands_in t ≡ true
    found_in (var m) o =
        elim (eqb_tells m n) as (λ _. stands_in (var m) ≡ true) [
          | inl e ↦ left_true (m == n) false e.0
          | inr e ↦ absurd (e.1 (sym o))
        ]
    found_in (app f ts) o = found_in_any ts o

    found_in_any : (ts : Trees) → OccursAny n ts → stands_in_any ts ≡ true
    found_in_any none o = absurd o
    found_in_any (some t ts) (inl o) =
        stands_in_some t ts ∙ left_true (stands_in t) (stands_in_any ts) (found_in t o)
    found_in_any (some t ts) (inr o) =
        stands_in_some t ts ∙ right_true (stands_in t) (stands_in_any ts) (found_in_any ts o)

  -- the test whether it is in one of the terms
  abbrev stands_in_one : List Tree → Bool
  stands_in_one ts = list_any stands_in ts

  occurs_in_one : (ts : List Tree) → stands_in_one ts ≡ true → OccursAny n (trees_of ts)
  occurs_in_one [] e = never e
  occurs_in_one (t ∷ ts) e =
      elim (either (stands_in t) (stands_in_one ts) e) as (λ _. OccursAny n (trees_of (t ∷ ts))) [
        | inl q ↦ inl (occurs_from t q)
        | inr q ↦ inr (occurs_in_one ts q)
      ]

  found_in_one : (ts : List Tree) → OccursAny n (trees_of ts) → stands_in_one ts ≡ true
  found_in_one [] o = absurd o
  found_in_one (t ∷ ts) (inl o) = left_true (stands_in t) (stands_in_one ts) (found_in t o)
  found_in_one (t ∷ ts) (inr o) = right_true (stands_in t) (stands_in_one ts) (found_in_one ts o)

  pub not_alone : (t : Tree) → (Occurs n t → ⊥) → OccursAny n (trees_of (t ∷ [])) → ⊥
  not_alone t absent (inl o) = absent o
  not_alone t absent (inr o) = o

-- what a test says of each number of a range
module _ (f : ℕ → Bool) where
  abbrev all_pass : ℕ → ℕ → Bool
  all_pass a m = list_all f (range_with_len a m)

  range_passes : (a m n : ℕ) → all_pass a m ≡ true → n < m → f (a + n) ≡ true
  range_passes a zero n e lt = absurd (omega arith)
  range_passes a (suc m) zero e lt =
      let q : a + 0 ≡ a = omega arith in
      rw q (both (f a) (all_pass (a + 1) m) e).0
  range_passes a (suc m) (suc n) e lt =
      let q : a + suc n ≡ (a + 1) + n = omega arith in
      rw q (range_passes (a + 1) m n (both (f a) (all_pass (a + 1) m) e).1 (omega arith))

  passes_below : (m : ℕ) → all_pass 0 m ≡ true → (n : ℕ) → n < m → f n ≡ true
  passes_below m e n lt =
      let q : 0 + n ≡ n = omega arith in
      rw q at (range_passes 0 m n e lt)

  passing_range :
      (a m : ℕ) → ((n : ℕ) → a ≤ n → n < a + m → f n ≡ true) → all_pass a m ≡ true
  passing_range a zero h = refl
  passing_range a (suc m) h =
      both_true (f a) (all_pass (a + 1) m) (h a (omega arith) (omega arith))
      (passing_range (a + 1) m (λ n le lt. h n (omega arith) (omega arith)))

module _ (c : Clause) (ts : List Tree) where
  -- the test of all variables finds each of them
  pub all_occur : has_all c ts ≡ true → (n : ℕ) → n < length c.ctx → OccursAny n (trees_of ts)
  all_occur e n lt =
      occurs_in_one n ts (passes_below (λ k. stands_in_one k ts) (length c.ctx) e n lt)

  -- and holds if each of them occurs
  pub all_found :
      ((n : ℕ) → n < length c.ctx → OccursAny n (trees_of ts)) → has_all c ts ≡ true
  all_found h =
      passing_range (λ k. stands_in_one k ts) 0 (length c.ctx)
      (λ n le lt. found_in_one n ts (h n (omega arith)))

  -- and fails if one doesn't
  pub not_all :
      (n : ℕ) → n < length c.ctx → (OccursAny n (trees_of ts) → ⊥) → has_all c ts ≡ false
  not_all n lt absent = no_other (has_all c ts) (λ e. absent (all_occur e n lt))
