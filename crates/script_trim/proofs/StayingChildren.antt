-- If a node stays, so do its children, but for those of the node that is closed.
use Rattle.std.proofs.Common.{◌≡◌, ◌≢◌, ◌⊎◌, ◌↔◌, ℕ, zero, suc, ◌+◌, ◌≤◌, ◌<◌, List, [], ◌∷◌, Bool, true, false, Some}
use Rattle.std.proofs.Common.{take, inl, inr, refl, sym, ◌∙◌, subst, arith, length}
use Rattle.std.specs.Prelude.{slice_get, IsTrue}
use Rattle.std.proofs.lemmas.List.{length-map}
use Rattle.std.proofs.lemmas.Option.{slice_get_within}
use Rattle.term_core.specs.Tree.{Tree}
use Rattle.spec_core.specs.declared.records.Spec.{Spec}
use Rattle.clause_core.specs.declared.answers.Child.{Child}
use Rattle.clause_core.specs.declared.answers.Children.{Children}
use Rattle.clause_core.specs.declared.clauses.Clause.{Clause}
use Rattle.clause_core.specs.declared.clauses.Relation.{Relation}
use Rattle.clause_core.specs.declared.steps.Step.{Step}
use Rattle.acceptance.specs.Blocks.{clauses_of, nodes_of, StepsMake}
use Rattle.acceptance.specs.Strict.{first_child, HasChild}
use Rattle.acceptance.proofs.WholeBlocks.{as_many}
use Rattle.script_trim.specs.Cut.{Descends, child, further, staying}
use Rattle.block_steps.proofs.ChildNumbers.{counted, counted_cons, counted_clauses, one_parent, child_below}
use Rattle.script_trim.proofs.Children.{descends_later}
use Rattle.script_trim.proofs.Staying.{staying_all, staying_none}

pub true_or_false : (b : Bool) → (b ≡ true) ⊎ (b ≡ false)
true_or_false true = inl refl
true_or_false false = inr refl

pub not_true_and_false : (b : Bool) → b ≡ true → b ≡ false → ⊥
not_true_and_false b p q = let e : true ≡ false = sym p ∙ q in cc

-- an item at each place of a list
pub there : {X : Type 0} (xs : List X) (j : ℕ) → j < length xs → (x : X) × (slice_get xs j ≡ Some x)
there [] j l = absurd (omega arith)
there (x ∷ xs) zero l = (x, refl)
there (x ∷ xs) (suc j) l = there xs j (omega (arith, l))

-- the parent of a node that descends from node i is node i, or descends from it
pub descends_by :
    (made : List Children) (i j : ℕ) → Descends made i j → (k : ℕ) × (r : Relation) × HasChild made k j r ×
    ((k ≡ i) ⊎ Descends made i k)
descends_by made i j (child r h) = (i, r, h, inl refl)
descends_by made i j (further k r d h) = (k, r, h, inr d)

module _ (stays : ℕ → Bool) (i : ℕ) where
  -- of the children of node k, which have the numbers from n on, these stay
  pub record IsLocal (k n : ℕ) (m : Children) : Type 0 where
    pub all : stays k ≡ true → k ≢ i → staying stays n (clauses_of m) ≡ clauses_of m
    pub none : stays k ≡ false → staying stays n (clauses_of m) ≡ []
    pub closed : k ≡ i → staying stays n (clauses_of m) ≡ []

  abbrev pub AreLocal : ℕ → ℕ → List Children → Type 0
  AreLocal k n [] = Unit {0}
  AreLocal k n (m ∷ made) = IsLocal k n m × AreLocal (suc k) (n + length (clauses_of m)) made

  local_each :
      (k n : ℕ) (made : List Children) → ((j : ℕ) (m : Children) → slice_get made j ≡ Some m →
      IsLocal (k + j) (n + counted (take j made)) m) → AreLocal k n made
  local_each k n [] h = tt
  local_each k n (m ∷ made) h =
      let z : k + 0 ≡ k = omega arith in
      let y : n + counted (take 0 (m ∷ made)) ≡ n = omega arith in
      let here : IsLocal k n m = subst (λ a. IsLocal a n m) z (subst (λ b. IsLocal (k + 0) b m) y (h 0 m refl)) in
      let rest : (j : ℕ) (x : Children) → slice_get made j ≡ Some x →
      IsLocal (suc k + j) ((n + length (clauses_of m)) + counted (take j made)) x = λ j x at. (
      let w : k + suc j ≡ suc k + j = omega arith in
      let v : n + counted (take (suc j) (m ∷ made)) ≡ (n + length (clauses_of m)) + counted (take j made) = next j in
      subst (λ a. IsLocal a ((n + length (clauses_of m)) + counted (take j made)) x) w
      (subst (λ b. IsLocal (k + suc j) b x) v (h (suc j) x at))
      ) in
      (here, local_each (suc k) (n + length (clauses_of m)) made rest)
    where
      next : (j : ℕ) → n + counted (take (suc j) (m ∷ made)) ≡ (n + length (clauses_of m)) + counted (take j made)
      next j = omega (arith, counted_cons m (take j made), length-map m.clauses (λ (d : Child). d.clause))

  module _ (above : Tree → Tree → Type 0) (spec : Spec) (usable : ℕ → Type 0) (start : Clause) (steps : List Step)
      (made : List Children) (makes : StepsMake above spec usable (start ∷ []) 0 steps made)
      (finished : length (nodes_of start made) ≡ length steps)
      (which : (k : ℕ) → IsTrue (stays k) ↔ ((k < length steps) × ¬ (Descends made i k))) where
    counted_steps : suc (counted made) ≡ length steps
    counted_steps = omega (arith, finished, counted_clauses made)

    module _ (k : ℕ) (m : Children) (at : slice_get made k ≡ Some m) where
      abbrev pub number : ℕ → ℕ
      number j = first_child made k + j

      has : (j : ℕ) → j < length (clauses_of m) → (r : Relation) × HasChild made k (number j) r
      has j l =
          let d = there m.clauses j (omega (arith, l, length-map m.clauses (λ (x : Child). x.clause))) in
          (d.0.relation, (m, j, d.0, at, d.1, refl, refl))

      goes : (j : ℕ) → j < length (clauses_of m) → ((¬ (Descends made i (number j))) → ⊥) → stays (number j) ≡ false
      goes j l d = either (true_or_false (stays (number j)))
        where
          either : (stays (number j) ≡ true) ⊎ (stays (number j) ≡ false) → stays (number j) ≡ false
          either (inl e) = absurd (d ((which (number j)).0 e).1)
          either (inr e) = e

      not_below : (j : ℕ) → j < length (clauses_of m) → stays k ≡ true → k ≢ i → Descends made i (number j) → ⊥
      not_below j l e not d =
          let p = descends_by made i (number j) d in
          let h = has j l in
          let q : k ≡ p.0 = one_parent made k p.0 (number j) h.0 p.1 h.1 p.2 in
          either q p.3
        where
          either : {n : ℕ} → k ≡ n → (n ≡ i) ⊎ Descends made i n → ⊥
          either q (inl f) = not (q ∙ f)
          either q (inr f) = ((which k).0 e).1 (subst (λ x. Descends made i x) (sym q) f)

      -- each child of another node that stays stays
      pub child_stays : (j : ℕ) → j < length (clauses_of m) → stays k ≡ true → k ≢ i → stays (number j) ≡ true
      child_stays j l e not =
          let h = has j l in
          (which (number j)).1 (
            omega (arith, counted_steps, child_below made k (number j) h.0 h.1),
            not_below j l e not,
          )

      pub local_at : IsLocal k (first_child made k) m
      local_at = record {
        all = λ e not. staying_all stays (first_child made k) (clauses_of m) (λ j l. child_stays j l e not);
        none =
            λ e. staying_none stays (first_child made k) (clauses_of m)
            (λ j l. goes j l (λ no. not_stays e (λ d. no (further k (has j l).0 d (has j l).1))));
        closed =
            λ e. staying_none stays (first_child made k) (clauses_of m)
            (λ j l. goes j l (λ no. no (child (has j l).0 (subst (λ n. HasChild made n (number j) (has j l).0) e
            (has j l).1))));
      }
        where
          not_stays : stays k ≡ false → (¬ (Descends made i k)) → ⊥
          not_stays e free =
              let l : k < length steps = omega (
                arith,
                slice_get_within made k m at,
                as_many above spec usable (start ∷ []) 0 steps made makes,
              ) in
              not_true_and_false (stays k) ((which k).1 (l, free)) e

    pub local_all : AreLocal 0 1 made
    local_all = local_each 0 1 made (λ j m at. (
        let z : j ≡ 0 + j = omega arith in
        let y : first_child made j ≡ 1 + counted (take j made) = omega arith in
        subst (λ a. IsLocal a (1 + counted (take j made)) m) z (subst (λ b. IsLocal j b m) y (local_at j m at))
        ))

    -- the node itself stays, and so does each node before it
    pub stays_before : i < length steps → (j : ℕ) → j ≤ i → stays j ≡ true
    stays_before l j h =
        (which j).1 (
          omega (arith, l, h),
          λ d. omega (
            arith,
            h,
            descends_later above spec usable start steps made makes i j d,
          ),
        )
