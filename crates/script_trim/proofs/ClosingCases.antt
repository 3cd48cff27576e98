-- Which steps are closing steps, by their kinds.
use Rattle.std.proofs.Common.{◌≡◌, ◌⊎◌, ℕ, zero, suc, ◌+◌, ◌<◌, ◌≤◌, List, [], ◌∷◌, ◌++◌, Some, None, inl, inr, refl}
use Rattle.std.proofs.Common.{sym, ◌∙◌, ap, subst, arith, length, map}
use Rattle.std.specs.Prelude.{Contains, flat_map, slice_get}
use Rattle.std.specs.List.{range_with_len}
use Rattle.spec_core.specs.declared.records.Goal.{Goal}
use Rattle.spec_core.specs.declared.records.Spec.{Spec}
use Rattle.clause_core.specs.declared.clauses.Clause.{Clause}
use Rattle.clause_core.specs.declared.steps.Step.{Step}
use Rattle.clause_core.specs.declared.steps.Step.TheVariants.{Trivial, Match, Absurd, Subsume, ByLemma}
use Rattle.clause_core.specs.Tidied.{goal_clause}
use Rattle.script_trim.specs.Closing.{numbers, trivials, matches_of, matches, absurds, own_variables, subsume_each}
use Rattle.script_trim.specs.Closing.{by_whole_lemma, by_each_lemma, closing_steps}

-- the list has the item, by recursion
abbrev pub Has : {X : Type 0} → List X → X → Type 0
Has [] x = ⊥
Has (y ∷ ys) x = (y ≡ x) ⊎ Has ys x

contains : {X : Type 0} (xs : List X) (x : X) → Has xs x → Contains xs x
contains [] x h = absurd h
contains (y ∷ ys) x (inl e) = (0, omega arith, e)
contains (y ∷ ys) x (inr h) = let at = contains ys x h in (suc at.0, omega (arith, at.1), at.2)

has : {X : Type 0} (xs : List X) (x : X) → Contains xs x → Has xs x
has [] x at = absurd (omega (arith, at.1))
has (y ∷ ys) x (zero, lt, e) = inl e
has (y ∷ ys) x (suc k, lt, e) = inr (has ys x (k, omega (arith, lt), e))

has_left : {X : Type 0} (xs ys : List X) (x : X) → Has xs x → Has (xs ++ ys) x
has_left [] ys x h = absurd h
has_left (z ∷ xs) ys x (inl e) = inl e
has_left (z ∷ xs) ys x (inr h) = inr (has_left xs ys x h)

has_right : {X : Type 0} (xs ys : List X) (x : X) → Has ys x → Has (xs ++ ys) x
has_right [] ys x h = h
has_right (z ∷ xs) ys x h = inr (has_right xs ys x h)

has_either : {X : Type 0} (xs ys : List X) (x : X) → Has (xs ++ ys) x → Has xs x ⊎ Has ys x
has_either [] ys x h = inr h
has_either (z ∷ xs) ys x (inl e) = inl (inl e)
has_either (z ∷ xs) ys x (inr h) = elim (has_either xs ys x h) [ inl p ↦ inl (inr p) | inr q ↦ inr q ]

-- the numbers from a on
number_from : (a count n : ℕ) → a ≤ n → n < a + count → Has (range_with_len a count) n
number_from a zero n le lt = absurd (omega arith)
number_from a (suc count) n le lt = elim (same_or_later a n le) [
  | inl e ↦ inl e
  | inr later ↦ inr (number_from (a + 1) count n (omega (arith, later)) (omega arith))
]
  where
    same_or_later : (a n : ℕ) → a ≤ n → (a ≡ n) ⊎ (suc a ≤ n)
    same_or_later zero zero le = inl refl
    same_or_later zero (suc n) le = inr (omega arith)
    same_or_later (suc a) zero le = absurd (omega arith)
    same_or_later (suc a) (suc n) le = elim (same_or_later a n (omega arith))
        [ inl e ↦ inl (ap (λ k. suc k) e) | inr l ↦ inr (omega (arith, l)) ]

has_map : {X Y : Type 0} (f : X → Y) (xs : List X) (x : X) → Has xs x → Has (map f xs) (f x)
has_map f [] x h = absurd h
has_map f (y ∷ xs) x (inl e) = inl (ap f e)
has_map f (y ∷ xs) x (inr h) = inr (has_map f xs x h)

has_flat : {X Y : Type 0} (f : X → List Y) (xs : List X) (x : X) (y : Y) → Has xs x → Has (f x) y →
    Has (flat_map f xs) y
has_flat f [] x y h q = absurd h
has_flat f (z ∷ xs) x y (inl e) q = has_left (f z) (flat_map f xs) y (subst (λ k. Has (f k) y) (sym e) q)
has_flat f (z ∷ xs) x y (inr h) q = has_right (f z) (flat_map f xs) y (has_flat f xs x y h q)

item_has : {X : Type 0} (xs : List X) (k : ℕ) (x : X) → slice_get xs k ≡ Some x → Has xs x
item_has [] k x at = absurd (let q : None ≡ Some x = at in cc)
item_has (y ∷ xs) zero x at = let q : Some y ≡ Some x = at in inl (cc)
item_has (y ∷ xs) (suc k) x at = inr (item_has xs k x at)

place : {X : Type 0} (xs : List X) (x : X) → Has xs x → (k : ℕ) × (slice_get xs k ≡ Some x)
place [] x h = absurd h
place (y ∷ xs) x (inl e) = (0, ap (λ z. Some z) e)
place (y ∷ xs) x (inr h) = let k = place xs x h in (suc k.0, k.1)

has_node : (k : ℕ) (ds : List Clause) (j : ℕ) (d : Clause) → slice_get ds j ≡ Some d →
    Has (subsume_each k ds) (Subsume (k + j) (own_variables d))
has_node k [] j d at = absurd (let q : None ≡ Some d = at in cc)
has_node k (e ∷ ds) zero d at =
    let q : Some e ≡ Some d = at in
    let same : e ≡ d = cc in
    let n : k ≡ k + 0 = omega arith in
    inl (ap (λ (x : Clause). Subsume k (own_variables x)) same ∙ ap (λ i. Subsume i (own_variables d)) n)
has_node k (e ∷ ds) (suc j) d at =
    inr (subst (λ i. Has (subsume_each (suc k) ds) (Subsume i (own_variables d)))
    (let n : suc k + j ≡ k + suc j = omega arith in n) (has_node (suc k) ds j d at))

-- the kinds of steps by their numbers and names
module _ (spec : Spec) (nodes : List Clause) (c : Clause) where
  abbrev pub IsNumber : {X : Type 0} → List X → ℕ → Type 0
  IsNumber es k = (1 ≤ k) × (k ≤ length es)

  abbrev pub IsCase : Step → Type 0
  IsCase (Trivial k) = IsNumber c.conclusions k
  IsCase (Match k j) = IsNumber c.conclusions k × IsNumber c.premises j
  IsCase (Absurd j) = IsNumber c.premises j
  IsCase (Subsume k terms) = (d : Clause) × (slice_get nodes k ≡ Some d) × (terms ≡ own_variables d)
  IsCase (ByLemma name terms) = (k : ℕ) × (goal : Goal) × (slice_get spec.goals k ≡ Some goal) × (goal.name ≡ name)
      × (terms ≡ own_variables (goal_clause goal))
  IsCase step = ⊥

  each_number : (P : ℕ → Type 0) (a count : ℕ) → ((k : ℕ) → a ≤ k → k < a + count → P k) → (k : ℕ) →
      Has (range_with_len a count) k → P k
  each_number P a zero h k at = absurd at
  each_number P a (suc count) h k (inl e) = subst P e (h a (omega arith) (omega arith))
  each_number P a (suc count) h k (inr at) = each_number P (a + 1) count
      (λ n le lt. h n (omega arith) (omega arith)) k at

  each_mapped : {X : Type 0} (f : X → Step) (xs : List X) → ((x : X) → Has xs x → IsCase (f x)) → (s : Step) →
      Has (map f xs) s → IsCase s
  each_mapped f [] h s at = absurd at
  each_mapped f (x ∷ xs) h s (inl e) = subst IsCase e (h x (inl refl))
  each_mapped f (x ∷ xs) h s (inr at) = each_mapped f xs (λ y p. h y (inr p)) s at

  each_flat : (f : ℕ → List Step) (xs : List ℕ) → ((x : ℕ) → Has xs x → (s : Step) → Has (f x) s → IsCase s) →
      (s : Step) → Has (flat_map f xs) s → IsCase s
  each_flat f [] h s at = absurd at
  each_flat f (x ∷ xs) h s at = elim (has_either (f x) (flat_map f xs) s at) [
    | inl p ↦ h x (inl refl) s p
    | inr q ↦ each_flat f xs (λ y p. h y (inr p)) s q
  ]

  numbered : {X : Type 0} (es : List X) (k : ℕ) → Has (numbers es) k → IsNumber es k
  numbered es k at = each_number (λ n. IsNumber es n) 1 (length es) (λ n le lt. (le, omega arith)) k at

  each_node : (k : ℕ) (ds : List Clause) → ((j : ℕ) (d : Clause) → slice_get ds j ≡ Some d →
      IsCase (Subsume (k + j) (own_variables d))) → (s : Step) → Has (subsume_each k ds) s → IsCase s
  each_node k [] h s at = absurd at
  each_node k (d ∷ ds) h s (inl e) =
      let n : k + 0 ≡ k = omega arith in
      subst IsCase (ap (λ i. Subsume i (own_variables d)) n ∙ e) (h 0 d refl)
  each_node k (d ∷ ds) h s (inr at) =
      each_node (suc k) ds (λ j x p. subst (λ i. IsCase (Subsume i (own_variables x)))
      (let n : k + suc j ≡ suc k + j = omega arith in n) (h (suc j) x p)) s at

  -- a closing step is one of its kind
  is_case : (s : Step) → Has (closing_steps spec nodes c) s → IsCase s
  is_case s at = elim (has_either (trivials c) (matches c ++ (absurds c ++
      (subsume_each 0 nodes ++ by_each_lemma spec.goals))) s at) [
        | inl p ↦ each_mapped (λ k. Trivial k) (numbers c.conclusions) (λ k q. numbered c.conclusions k q) s p
        | inr rest ↦ elim (has_either (matches c) (absurds c ++ (subsume_each 0 nodes ++ by_each_lemma spec.goals)) s
            rest) [
              | inl p ↦ each_flat (matches_of c) (numbers c.conclusions)
                  (λ k q t. each_mapped (λ j. Match k j) (numbers c.premises)
                  (λ j r. (numbered c.conclusions k q, numbered c.premises j r)) t) s p
              | inr more ↦ elim (has_either (absurds c) (subsume_each 0 nodes ++ by_each_lemma spec.goals) s more) [
                | inl p ↦ each_mapped (λ j. Absurd j) (numbers c.premises) (λ j q. numbered c.premises j q) s p
                | inr others ↦ elim (has_either (subsume_each 0 nodes) (by_each_lemma spec.goals) s others) [
                  | inl p ↦ each_node 0 nodes (λ j d q. subst (λ i. IsCase (Subsume i (own_variables d)))
                      (let n : j ≡ 0 + j = omega arith in n) (d, q, refl)) s p
                  | inr p ↦ each_mapped by_whole_lemma spec.goals (λ goal q. let k =
                      place spec.goals goal q in (k.0, goal, k.1, refl, refl)) s p
                ]
              ]
            ]
      ]

  at_number : {X : Type 0} (es : List X) (k : ℕ) → IsNumber es k → Has (numbers es) k
  at_number es k at = number_from 1 (length es) k at.0 (omega arith)

  to_absurds : (s : Step) → Has (absurds c ++ (subsume_each 0 nodes ++ by_each_lemma spec.goals)) s →
      Has (closing_steps spec nodes c) s
  to_absurds s h = has_right (trivials c) (matches c ++ (absurds c ++
      (subsume_each 0 nodes ++ by_each_lemma spec.goals))) s (has_right (matches c)
      (absurds c ++ (subsume_each 0 nodes ++ by_each_lemma spec.goals)) s h)

  to_nodes : (s : Step) → Has (subsume_each 0 nodes ++ by_each_lemma spec.goals) s →
      Has (closing_steps spec nodes c) s
  to_nodes s h = to_absurds s (has_right (absurds c) (subsume_each 0 nodes ++ by_each_lemma spec.goals) s h)

  -- and a step of such a kind is a closing step
  of_case : (s : Step) → IsCase s → Has (closing_steps spec nodes c) s
  of_case (Trivial k) at = has_left (trivials c) (matches c ++ (absurds c ++
      (subsume_each 0 nodes ++ by_each_lemma spec.goals))) (Trivial k)
      (has_map (λ n. Trivial n) (numbers c.conclusions) k (at_number c.conclusions k at))
  of_case (Match k j) at =
      has_right (trivials c) (matches c ++ (absurds c ++ (subsume_each 0 nodes ++ by_each_lemma spec.goals)))
      (Match k j)
      (has_left (matches c) (absurds c ++ (subsume_each 0 nodes ++ by_each_lemma spec.goals)) (Match k j)
      (has_flat (matches_of c) (numbers c.conclusions) k (Match k j) (at_number c.conclusions k at.0)
      (has_map (λ n. Match k n) (numbers c.premises) j (at_number c.premises j at.1))))
  of_case (Absurd j) at = to_absurds (Absurd j) (has_left (absurds c)
      (subsume_each 0 nodes ++ by_each_lemma spec.goals) (Absurd j)
      (has_map (λ n. Absurd n) (numbers c.premises) j (at_number c.premises j at)))
  of_case (Subsume k terms) (d, at, e) =
      subst (λ ts. Has (closing_steps spec nodes c) (Subsume k ts)) (sym e)
      (to_nodes (Subsume k (own_variables d)) (has_left (subsume_each 0 nodes) (by_each_lemma spec.goals)
      (Subsume k (own_variables d)) (subst (λ i. Has (subsume_each 0 nodes) (Subsume i (own_variables d)))
      (let n : 0 + k ≡ k = omega arith in n) (has_node 0 nodes k d at))))
  of_case (ByLemma name terms) (k, goal, at, named, e) =
      subst (λ ts. Has (closing_steps spec nodes c) (ByLemma name ts)) (sym e)
      (subst (λ n. Has (closing_steps spec nodes c) (ByLemma n (own_variables (goal_clause goal)))) named
      (to_nodes (by_whole_lemma goal) (has_right (subsume_each 0 nodes) (by_each_lemma spec.goals)
      (by_whole_lemma goal) (has_map by_whole_lemma spec.goals goal (item_has spec.goals k goal at)))))
  of_case step at = absurd at

  pub closing_case : (s : Step) → Contains (closing_steps spec nodes c) s → IsCase s
  closing_case s at = is_case s (has (closing_steps spec nodes c) s at)

  pub case_closing : (s : Step) → IsCase s → Contains (closing_steps spec nodes c) s
  case_closing s at = contains (closing_steps spec nodes c) s (of_case s at)
