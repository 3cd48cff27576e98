-- The steps of a block by their numbers, with what they make over the nodes so far.
use Rattle.std.proofs.Common.{◌≡◌, ℕ, zero, suc, ◌+◌, ◌<◌, ◌≤◌, List, [], ◌∷◌, ◌++◌, Some, inl, inr, take, length}
use Rattle.std.proofs.Common.{append_assoc, refl, ap, sym, ◌∙◌, subst, arith}
use Rattle.std.specs.Prelude.{Contains, flat_map, slice_get}
use Rattle.std.proofs.lemmas.List.{append-nil, take_all}
use Rattle.std.proofs.lemmas.Option.{slice_get_within}
use Rattle.term_core.specs.Tree.{Tree}
use Rattle.term_core.proofs.Numbers.{below_or_not}
use Rattle.spec_core.specs.declared.records.Goal.{Goal}
use Rattle.spec_core.specs.declared.records.Spec.{Spec}
use Rattle.clause_core.specs.declared.clauses.Clause.{Clause}
use Rattle.clause_core.specs.declared.steps.Step.{Step}
use Rattle.clause_core.specs.declared.answers.Children.{Children}
use Rattle.clause_core.specs.Tidied.{goal_clause}
use Rattle.acceptance.specs.Blocks.{clauses_of, nodes_of, StepMakes, StepsMake}
use Rattle.plain_search.specs.Choices.{IsChosen}
use Rattle.plain_search.specs.Blocks.{IsPlainBlock, IsSplit}

-- one item more of a list
pub taken_more : {X : Type 0} (xs : List X) (k : ℕ) (x : X) → slice_get xs k ≡ Some x →
    take (suc k) xs ≡ take k xs ++ x ∷ []
taken_more [] k x at = absurd (cc)
taken_more (y ∷ xs) zero x at = let q : Some y ≡ Some x = at in let e : y ≡ x = cc in ap (λ z. z ∷ []) e
taken_more (y ∷ xs) (suc k) x at = ap (λ ys. y ∷ ys) (taken_more xs k x at)

module _ (above : Tree → Tree → Type 0) (spec : Spec) (usable : ℕ → Type 0) where
  -- each step makes something
  pub same_count : (nodes : List Clause) (n : ℕ) (steps : List Step) (made : List Children) →
      StepsMake above spec usable nodes n steps made → length steps ≡ length made
  same_count nodes n [] [] h = refl
  same_count nodes n [] (m ∷ made) h = absurd h
  same_count nodes n (step ∷ steps) [] h = absurd h
  same_count nodes n (step ∷ steps) (m ∷ made) h = omega (
    arith,
    same_count (nodes ++ clauses_of m) (suc n) steps made h.1,
  )

  -- the step of a number, over the nodes so far
  pub record Turn (nodes : List Clause) (n : ℕ) (steps : List Step) (made : List Children) (k : ℕ) : Type 0 where
    pub step : Step
    pub made_by : Children
    pub at : slice_get steps k ≡ Some step
    pub makes_at : slice_get made k ≡ Some made_by
    pub makes : StepMakes above spec usable (nodes ++ flat_map clauses_of (take k made)) (n + k) step made_by

  pub turn : (nodes : List Clause) (n : ℕ) (steps : List Step) (made : List Children) →
      StepsMake above spec usable nodes n steps made → (k : ℕ) → k < length steps → Turn nodes n steps made k
  turn nodes n [] made h k lt = absurd (omega arith)
  turn nodes n (step ∷ steps) [] h k lt = absurd h
  turn nodes n (step ∷ steps) (m ∷ made) h zero lt = record {
    step = step;
    made_by = m;
    at = refl;
    makes_at = refl;
    makes =
        let z : n ≡ n + 0 = omega arith in
        subst (λ ns. StepMakes above spec usable ns (n + 0) step m) (sym (append-nil nodes))
        (subst (λ j. StepMakes above spec usable nodes j step m) z h.0);
  }
  turn nodes n (step ∷ steps) (m ∷ made) h (suc k) lt =
      let t = turn (nodes ++ clauses_of m) (suc n) steps made h.1 k (omega arith) in
      record {
        step = t.step;
        made_by = t.made_by;
        at = t.at;
        makes_at = t.makes_at;
        makes =
            let z : suc n + k ≡ n + suc k = omega arith in
            subst (λ ns. StepMakes above spec usable ns (n + suc k) t.step t.made_by)
            (append_assoc nodes (clauses_of m) (flat_map clauses_of (take k made)))
            (subst (λ j. StepMakes above spec usable ((nodes ++ clauses_of m)
            ++ flat_map clauses_of (take k made)) j t.step t.made_by) z t.makes);
      }

-- the nodes after one step more
nodes_joined : (ms : List Children) (m : Children) → flat_map clauses_of (ms ++ m ∷ []) ≡ flat_map clauses_of ms
    ++ clauses_of m
nodes_joined [] m = append-nil (clauses_of m)
nodes_joined (x ∷ ms) m = ap (λ ns. clauses_of x ++ ns) (nodes_joined ms m)
    ∙ sym (append_assoc (clauses_of x) (flat_map clauses_of ms) (clauses_of m))

pub nodes_more : (start : Clause) (made : List Children) (k : ℕ) (m : Children) → slice_get made k ≡ Some m →
    nodes_of start (take (suc k) made) ≡ nodes_of start (take k made) ++ clauses_of m
nodes_more start made k m at = ap (λ ns. start ∷ ns) (ap (λ ms. flat_map clauses_of ms) (taken_more made k m at)
    ∙ nodes_joined (take k made) m)

module _ (above : Tree → Tree → Type 0) (spec : Spec) (goal : Goal) (x : ℕ) (steps : List Step)
    (b : IsPlainBlock above spec goal x steps) where
  abbrev pub start : Clause
  start = goal_clause goal

  -- the nodes before the step with this number
  abbrev pub nodes_at : ℕ → List Clause
  nodes_at k = nodes_of start (take k b.made)

  pub block_turn : (k : ℕ) → k < length steps → Turn above spec (Contains []) (start ∷ []) 0 steps b.made k
  block_turn k lt = turn above spec (Contains []) (start ∷ []) 0 steps b.made b.makes k lt

  -- the node with this number, the step that it has and what that makes
  pub record At (k : ℕ) : Type 0 where
    pub step : Step
    pub made_by : Children
    pub at : slice_get steps k ≡ Some step
    pub makes_at : slice_get b.made k ≡ Some made_by
    pub makes : StepMakes above spec (Contains []) (nodes_at k) k step made_by

  pub at_number : (k : ℕ) → k < length steps → At k
  at_number k lt =
      let t = block_turn k lt in
      let z : 0 + k ≡ k = omega arith in
      record {
        step = t.step;
        made_by = t.made_by;
        at = t.at;
        makes_at = t.makes_at;
        makes = subst (λ j. StepMakes above spec (Contains []) (nodes_at k) j t.step t.made_by) z t.makes;
      }

  pub all_made : length b.made ≡ length steps
  all_made = sym (same_count above spec (Contains []) (start ∷ []) 0 steps b.made b.makes)

  -- as long as a node has no step yet there is one more in the block
  pub goes_on : (k : ℕ) → k ≤ length steps → k < length (nodes_at k) → k < length steps
  goes_on k le lt =
      elim (below_or_not k (length steps)) as (λ _. k < length steps) [
        | inl b' ↦ b'
        | inr past ↦ (
            let whole : take k b.made ≡ b.made = take_all k b.made (omega (arith, all_made)) in
            let long = ap (λ ms. length (nodes_of start ms)) whole in
            absurd (omega (arith, long, b.finished)))
      ]

  -- if each node has its step the block ends
  pub ends : (k : ℕ) → k ≤ length steps → length (nodes_at k) ≤ k → k ≡ length steps
  ends k le past =
      elim (below_or_not k (length steps)) as (λ _. k ≡ length steps) [
        | inl lt ↦ (
            let t = at_number k lt in
            let there = slice_get_within (nodes_at k) k t.makes.clause t.makes.is in
            absurd (omega arith))
        | inr other ↦ omega arith
      ]

  -- the first step splits the variable
  pub first_splits : (step : Step) → slice_get steps 0 ≡ Some step → IsSplit spec goal x step
  first_splits step at =
      let q : Some b.split ≡ Some step = ap (λ ss. slice_get ss 0) (sym b.is) ∙ at in
      let e : b.split ≡ step = cc in
      subst (λ s. IsSplit spec goal x s) e b.splits

  -- each other one is chosen
  pub later_chosen : (k : ℕ) (step : Step) (c : Clause) → slice_get steps (suc k) ≡ Some step →
      slice_get (nodes_at (suc k)) (suc k) ≡ Some c → IsChosen above spec (Contains []) start (nodes_at (suc k)) c step
  later_chosen k step c at there =
      let q : slice_get b.others k ≡ Some step = ap (λ ss. slice_get ss (suc k)) (sym b.is) ∙ at in
      b.chosen k step c q there
