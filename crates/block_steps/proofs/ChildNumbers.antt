-- The numbers of children: each node has one parent, which comes before it.
use Rattle.std.proofs.Common.{◌≡◌, ◌⊎◌, ℕ, zero, suc, ◌+◌, ◌≤◌, ◌<◌, List, [], ◌∷◌, ◌++◌, Some, None, take, inl, inr}
use Rattle.std.proofs.Common.{sym, ◌∙◌, ap, arith, length, length-append, map, get_or}
use Rattle.std.specs.Prelude.{flat_map, slice_get, sum}
use Rattle.std.proofs.lemmas.List.{length-map, take_all}
use Rattle.std.proofs.lemmas.List.Sums.{sum-map, sum_by-cons}
use Rattle.std.proofs.lemmas.Option.{slice_get_cases, slice_get_within}
use Rattle.term_core.specs.Tree.{Tree}
use Rattle.term_core.proofs.Numbers.{below_or_not}
use Rattle.spec_core.specs.declared.records.Spec.{Spec}
use Rattle.clause_core.specs.declared.answers.Child.{Child}
use Rattle.clause_core.specs.declared.answers.Children.{Children}
use Rattle.clause_core.specs.declared.clauses.Clause.{Clause}
use Rattle.clause_core.specs.declared.clauses.Relation.{Relation}
use Rattle.clause_core.specs.declared.steps.Step.{Step}
use Rattle.acceptance.specs.Blocks.{clauses_of, StepsMake}
use Rattle.acceptance.specs.Strict.{first_child, HasChild}

-- how many clauses children have in all
abbrev pub counted : List Children → ℕ
counted made = sum (map (λ (m : Children). length m.clauses) made)

pub counted_cons : (m : Children) (ms : List Children) → counted (m ∷ ms) ≡ length m.clauses + counted ms
counted_cons m ms =
    sum-map (λ (x : Children). length x.clauses) (m ∷ ms) ∙ sum_by-cons (λ (x : Children). length x.clauses) m ms ∙ ap
    (λ n. length m.clauses + n) (sym (sum-map (λ (x : Children). length x.clauses) ms))

pub counted_clauses : (made : List Children) → length (flat_map clauses_of made) ≡ counted made
counted_clauses [] = omega arith
counted_clauses (m ∷ ms) =
    omega (
      arith,
      length-append (clauses_of m) (flat_map clauses_of ms),
      length-map m.clauses (λ (x : Child). x.clause),
      counted_clauses ms,
      counted_cons m ms,
    )

pub counted_append : (ms ns : List Children) → counted (ms ++ ns) ≡ counted ms + counted ns
counted_append [] ns = omega arith
counted_append (m ∷ ms) ns = omega (arith, counted_cons m (ms ++ ns), counted_cons m ms, counted_append ms ns)

-- the children of a later node come later
later_children :
    (made : List Children) (k j : ℕ) (m : Children) → slice_get made k ≡ Some m → k < j →
    counted (take k made) + length m.clauses ≤ counted (take j made)
later_children [] k j m at l = absurd (let q : None ≡ Some m = at in cc)
later_children (n ∷ made) k zero m at l = absurd (omega arith)
later_children (n ∷ made) zero (suc j) m at l =
    let q : Some n ≡ Some m = at in
    let e : n ≡ m = cc in
    let c : length n.clauses ≡ length m.clauses = ap (λ (x : Children). length x.clauses) e in
    omega (arith, c, counted_cons n (take j made))
later_children (n ∷ made) (suc k) (suc j) m at l =
    omega (
      arith,
      later_children made k j m at (omega (arith, l)),
      counted_cons n (take j made),
      counted_cons n (take k made),
    )

pub all_children :
    (made : List Children) (k : ℕ) (m : Children) → slice_get made k ≡ Some m →
    counted (take k made) + length m.clauses ≤ counted made
all_children [] k m at = absurd (let q : None ≡ Some m = at in cc)
all_children (n ∷ made) zero m at =
    let q : Some n ≡ Some m = at in
    let e : n ≡ m = cc in
    let c : length n.clauses ≡ length m.clauses = ap (λ (x : Children). length x.clauses) e in
    omega (arith, c, counted_cons n made)
all_children (n ∷ made) (suc k) m at =
    omega (arith, all_children made k m at, counted_cons n made, counted_cons n (take k made))

module _ (made : List Children) where
  not_later : (k i j : ℕ) (r s : Relation) → HasChild made k j r → HasChild made i j s → k < i → ⊥
  not_later k i j r s (m, a, c, at, get, rel, num) (n, b, d, is, got, has, is_num) l =
      omega (arith, num, is_num, later_children made k i m at l, slice_get_within m.clauses a c get)

  -- a node has one parent
  pub one_parent : (k i j : ℕ) (r s : Relation) → HasChild made k j r → HasChild made i j s → k ≡ i
  one_parent k i j r s p q = either (below_or_not k i) (below_or_not i k)
    where
      either : (k < i) ⊎ (i ≤ k) → (i < k) ⊎ (k ≤ i) → k ≡ i
      either (inl l) h = absurd (not_later k i j r s p q l)
      either (inr l) (inl g) = absurd (not_later i k j s r q p g)
      either (inr l) (inr g) = omega (arith, l, g)

  -- a later node has its first child no earlier
  pub later_first : (k i : ℕ) → k < i → first_child made k ≤ first_child made i
  later_first k i l = either (slice_get_cases made k).1
    where
      either :
          ((m : Children) × (k < length made) × (slice_get made k ≡ Some m) × (get_or made k m ≡ m)) ⊎
          ((length made ≤ k) × (slice_get made k ≡ None)) → first_child made k ≤ first_child made i
      either (inl h) = omega (arith, later_children made k i h.0 h.2 l)
      either (inr h) =
          let a : counted (take k made) ≡ counted made = ap (λ ms. counted ms) (take_all k made h.0) in
          let b : counted (take i made) ≡ counted made = ap (λ ms. counted ms)
          (take_all i made (omega (arith, h.0, l))) in
          omega (arith, a, b)

  -- a child's number is below the number of nodes
  pub child_below : (k j : ℕ) (r : Relation) → HasChild made k j r → j < suc (counted made)
  child_below k j r (m, a, c, at, get, rel, num) =
      omega (arith, num, all_children made k m at, slice_get_within m.clauses a c get)

module _ (above : Tree → Tree → Type 0) (spec : Spec) (usable : ℕ → Type 0) where
  -- a node comes before its children
  pub before_children :
      (nodes : List Clause) (n : ℕ) (steps : List Step) (made : List Children) →
      StepsMake above spec usable nodes n steps made → (k : ℕ) (m : Children) → slice_get made k ≡ Some m →
      n + k < length nodes + counted (take k made)
  before_children nodes n [] [] p k m at = absurd (let q : None ≡ Some m = at in cc)
  before_children nodes n [] (x ∷ made) p k m at = absurd p
  before_children nodes n (s ∷ steps) [] p k m at = absurd p
  before_children nodes n (s ∷ steps) (x ∷ made) p zero m at = omega (arith, slice_get_within nodes n p.0.clause p.0.is)
  before_children nodes n (s ∷ steps) (x ∷ made) p (suc k) m at =
      omega (
        arith,
        before_children (nodes ++ clauses_of x) (suc n) steps made p.1 k m at,
        length-append nodes (clauses_of x),
        length-map x.clauses (λ (d : Child). d.clause),
        counted_cons x (take k made),
      )

  module _ (start : Clause) (steps : List Step) (made : List Children)
      (makes : StepsMake above spec usable (start ∷ []) 0 steps made) where
    pub child_later : (k j : ℕ) (r : Relation) → HasChild made k j r → k < j
    child_later k j r (m, a, c, at, get, rel, num) =
        omega (arith, num, before_children (start ∷ []) 0 steps made makes k m at)
