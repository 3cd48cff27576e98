-- How the list of the goals that are lemmas grows.
use Rattle.std.proofs.Common.{◌≡◌, ℕ, zero, suc, ◌+◌, ◌<◌, ◌≤◌, List, [], ◌∷◌, ◌++◌, Bool, true, false, cond, Some}
use Rattle.std.proofs.Common.{refl, ap, sym, ◌∙◌, subst, arith, length, map, get_or}
use Rattle.std.specs.Prelude.{slice_get, ◌==◌, option_to_list, filter}
use Rattle.std.specs.List.{flat_map, range_with_len, list_any}
use Rattle.std.proofs.lemmas.List.{append-nil, map-append}
use Rattle.std.proofs.lemmas.Grind.{flat_map-append}
use Rattle.std.proofs.lemmas.Option.{slice_get_read}
use Rattle.spec_core.specs.declared.records.Goal.{Goal}
use Rattle.spec_core.specs.declared.records.Spec.{Spec}
use Rattle.clause_core.specs.declared.clauses.Clause.{Clause}
use Rattle.routine_proof.specs.Candidates.{each}
use Rattle.routine_proof.specs.Entries.{lemma_goals}
use Rattle.proof_search.specs.Settings.{lemma_goal}

-- the lemmas among this many first goals
abbrev pub lemmas_before : List ℕ → List Goal → ℕ → List (List ℕ × Clause)
lemmas_before lemmas goals i =
    map lemma_goal
    (flat_map (λ k. option_to_list (slice_get goals k))
    (filter (λ k. list_any (λ n. n == k) lemmas) (range_with_len 0 i)))

range_more : (a n : ℕ) → range_with_len a (suc n) ≡ range_with_len a n ++ (a + n) ∷ []
range_more a zero = let e : a ≡ a + 0 = omega arith in ap (λ m. m ∷ []) e
range_more a (suc n) =
    let e : (a + 1) + n ≡ a + suc n = omega arith in
    ap (λ l. a ∷ l) (range_more (a + 1) n ∙ ap (λ m. range_with_len (a + 1) n ++ m ∷ []) e)

filter_more : (p : ℕ → Bool) (xs : List ℕ) (x : ℕ) →
    filter p (xs ++ x ∷ []) ≡ filter p xs ++ cond (p x) (x ∷ []) []
filter_more p [] x = refl
filter_more p (y ∷ xs) x = by (p y) (filter_more p xs x)
  where
    by : (b : Bool) → filter p (xs ++ x ∷ []) ≡ filter p xs ++ cond (p x) (x ∷ []) [] →
        cond b (y ∷ filter p (xs ++ x ∷ [])) (filter p (xs ++ x ∷ [])) ≡ cond b (y ∷ filter p xs)
        (filter p xs) ++ cond (p x) (x ∷ []) []
    by true e = ap (λ l. y ∷ l) e
    by false e = e

module _ (lemmas : List ℕ) (goals : List Goal) (i : ℕ) where
  more : lemmas_before lemmas goals (i + 1) ≡ lemmas_before lemmas goals i ++ map lemma_goal
      (flat_map (λ k. option_to_list (slice_get goals k))
      (cond (list_any (λ n. n == i) lemmas) (i ∷ []) []))
  more =
      let h : i + 1 ≡ suc i = omega arith in
      let z : 0 + i ≡ i = omega arith in
      let p = λ (k : ℕ). list_any (λ n. n == k) lemmas in
      let g = λ (k : ℕ). option_to_list (slice_get goals k) in
      let kept : filter p (range_with_len 0 (i + 1)) ≡ filter p (range_with_len 0 i) ++ cond (p i)
      (i ∷ []) [] = ap (λ n. filter p (range_with_len 0 n)) h
      ∙ ap (λ l. filter p l) (range_more 0 i ∙ ap (λ m. range_with_len 0 i ++ m ∷ []) z)
      ∙ filter_more p (range_with_len 0 i) i in
      ap (λ l. map lemma_goal (flat_map g l)) kept
      ∙ ap (λ l. map lemma_goal l) (flat_map-append g (filter p (range_with_len 0 i))
      (cond (p i) (i ∷ []) [])) ∙ map-append lemma_goal
      (flat_map g (filter p (range_with_len 0 i))) (flat_map g (cond (p i) (i ∷ []) []))

  pub lemma_added : (goal : Goal) (made : List (List ℕ × Clause)) → slice_get goals i ≡ Some goal →
      list_any (λ n. n == i) lemmas ≡ true → made ≡ lemmas_before lemmas goals i →
      made ++ lemma_goal goal ∷ [] ≡ lemmas_before lemmas goals (i + 1)
  lemma_added goal made at is e =
      let here : map lemma_goal (flat_map (λ k. option_to_list (slice_get goals k))
      (cond (list_any (λ n. n == i) lemmas) (i ∷ []) [])) ≡ lemma_goal goal ∷ [] = rw
      (is, at) refl in
      sym (more ∙ ap (λ l. lemmas_before lemmas goals i ++ l) here
      ∙ ap (λ l. l ++ lemma_goal goal ∷ []) (sym e))

  pub lemma_skipped : (made : List (List ℕ × Clause)) → list_any (λ n. n == i) lemmas ≡ false →
      made ≡ lemmas_before lemmas goals i → made ≡ lemmas_before lemmas goals (i + 1)
  lemma_skipped made is e =
      let none : map lemma_goal (flat_map (λ k. option_to_list (slice_get goals k))
      (cond (list_any (λ n. n == i) lemmas) (i ∷ []) [])) ≡ [] = rw is refl in
      sym (more ∙ ap (λ l. lemmas_before lemmas goals i ++ l) none
      ∙ append-nil (lemmas_before lemmas goals i) ∙ sym e)

pub lemmas_all : (spec : Spec) (lemmas : List ℕ) →
    lemmas_before lemmas spec.goals (length spec.goals) ≡ map lemma_goal (lemma_goals spec lemmas)
unfolding each
lemmas_all spec lemmas = refl

-- the same at an index in the list of all goals
module _ (lemmas : List ℕ) (items goals : List Goal) (i : ℕ) (e : items ≡ goals) where
  pub added_at : (goal : Goal) (old new : List (List ℕ × Clause)) → i < length items →
      goal ≡ get_or items i goal → list_any (λ n. n == i) lemmas ≡ true →
      old ≡ lemmas_before lemmas goals i → new ≡ old ++ lemma_goal goal ∷ [] →
      new ≡ lemmas_before lemmas goals (i + 1)
  added_at goal old new lt is listed before more =
      let at : slice_get items i ≡ Some goal = slice_get_read items
      (length items) i goal refl lt is in
      let here : slice_get goals i ≡ Some goal = subst
      (λ (xs : List Goal). slice_get xs i ≡ Some goal) e at in
      more ∙ lemma_added lemmas goals i goal old here listed before

  pub all_lemmas : (spec : Spec) (made : List (List ℕ × Clause)) → goals ≡ spec.goals →
      length items ≤ i →
      i ≤ length items → made ≡ lemmas_before lemmas goals i →
      made ≡ map lemma_goal (lemma_goals spec lemmas)
  all_lemmas spec made are le ge before =
      let n : i ≡ length spec.goals = omega (
        arith,
        ap (λ (xs : List Goal). length xs) e,
        ap (λ (xs : List Goal). length xs) are,
      ) in
      before ∙ ap (λ (xs : List Goal). lemmas_before lemmas xs i) are
      ∙ ap (λ k. lemmas_before lemmas spec.goals k) n ∙ lemmas_all spec lemmas
