-- What the first refusal of a block is, by how far its steps make something.
use Rattle.std.proofs.Common.{◌≡◌, ℕ, zero, suc, ◌+◌, ◌<◌, List, [], ◌∷◌, take, inl, inr, refl, sym, ◌∙◌, subst, arith}
use Rattle.std.proofs.Common.{length}
use Rattle.std.specs.Prelude.{slice_get}
use Rattle.std.specs.List.{range_with_len}
use Rattle.term_core.specs.Tree.{Tree}
use Rattle.spec_core.specs.declared.records.Goal.{Goal}
use Rattle.spec_core.specs.declared.records.Spec.{Spec}
use Rattle.spec_core.specs.WellSorted.{IsWellSorted}
use Rattle.spec_core.specs.Findings.{Search, Clean, First, each}
use Rattle.clause_core.specs.declared.answers.Children.{Children}
use Rattle.clause_core.specs.declared.answers.Why.{Why}
use Rattle.clause_core.specs.declared.answers.Why.TheVariants.{Limit}
use Rattle.clause_core.specs.declared.reports.Claim.{Claim}
use Rattle.clause_core.specs.declared.reports.ReplayWhy.{ReplayWhy}
use Rattle.clause_core.specs.declared.reports.ReplayWhy.TheVariants.{Step as of_step, Pending, NotSmaller}
use Rattle.clause_core.specs.declared.steps.Step.{Step}
use Rattle.clause_core.specs.ClauseLaws.{OneRelation}
use Rattle.clause_core.specs.Limits.{IsWithin}
use Rattle.clause_core.specs.Tidied.{goal_clause}
use Rattle.acceptance.specs.Strict.{NodeIsAllowed}
use Rattle.acceptance.specs.Blocks.{nodes_of, StepsMake}
use Rattle.acceptance.specs.Claims.{IsGoalNamed, ProvedBefore}
use Rattle.acceptance.specs.Refusals.{OfGoal, step_tests, order_test, block_tests, reason_test, all_reasons}
use Rattle.acceptance.specs.StepRefusals.{IsPending, IsNotSmaller, StepIsRefused}
use Rattle.acceptance.proofs.OneBlock.{none_refused, refused_one}
use Rattle.acceptance.proofs.NoRefusal.{each_clean, goal_named_one, not_of_goal, not_larger, not_pending, steps_clean}
use Rattle.acceptance.proofs.Reasons.{first_reason}

-- the first of a range of searches that finds something is first in all of them
in_range : {F : Type 0} (f : ℕ → Search F) (m n k : ℕ) (e : F) → k < n → ((j : ℕ) → j < k → Clean (f (m + j))) →
    First (f (m + k)) e → First (each f (range_with_len m n)) e
in_range f m zero k e l clean h = absurd (omega arith)
in_range f m (suc n) zero e l clean h = let z : m + 0 ≡ m = omega arith in inl (subst (λ x. First (f x) e) z h)
in_range f m (suc n) (suc k) e l clean h =
    let at : (j : ℕ) → m + suc j ≡ (m + 1) + j = λ j. omega arith in
    let z : m + 0 ≡ m = omega arith in
    inr (
      subst (λ x. Clean (f x)) z (clean 0 (omega arith)),
      in_range f (m + 1) n k e (omega (arith, l))
          (λ j i. subst (λ x. Clean (f x)) (at j) (clean (suc j) (omega (arith, i))))
          (subst (λ x. First (f x) e) (at k) h),
    )

pub first_in_range : {F : Type 0} (f : ℕ → Search F) (n k : ℕ) (e : F) → k < n →
    ((j : ℕ) → j < k → Clean (f j)) → First (f k) e → First (each f (range_with_len 0 n)) e
first_in_range f n k e l clean h =
    let z : (j : ℕ) → j ≡ 0 + j = λ j. omega arith in
    in_range f 0 n k e l (λ j i. subst (λ x. Clean (f x)) (z j) (clean j i)) (subst (λ x. First (f x) e) (z k) h)

-- what comes before a place comes before it in a longer list
get_taken : {X : Type 0} (xs : List X) (j k : ℕ) → j < k → slice_get (take k xs) j ≡ slice_get xs j
get_taken [] j zero l = absurd (omega arith)
get_taken [] j (suc k) l = refl
get_taken (x ∷ xs) j zero l = absurd (omega arith)
get_taken (x ∷ xs) zero (suc k) l = refl
get_taken (x ∷ xs) (suc j) (suc k) l = get_taken xs j k (omega (arith, l))

take_taken : {X : Type 0} (xs : List X) (j k : ℕ) → j < k → take j (take k xs) ≡ take j xs
take_taken [] j zero l = absurd (omega arith)
take_taken [] j (suc k) l = refl
take_taken (x ∷ xs) j zero l = absurd (omega arith)
take_taken (x ∷ xs) zero (suc k) l = refl
take_taken (x ∷ xs) (suc j) (suc k) l = let e : take j (take k xs) ≡ take j xs = take_taken xs j k
    (omega (arith, l)) in λ i. x ∷ e i

module _ (above : Tree → Tree → Type 0) (one : OneRelation above) (spec : Spec) (fine : IsWellSorted spec)
    (before : List Claim) (line : ℕ) (name : List ℕ) (goal : Goal) (named : IsGoalNamed spec name goal)
    (steps : List Step) where
  abbrev usable : ℕ → Type 0
  usable = ProvedBefore spec before

  abbrev Refused : ℕ → Why → Goal → Type 0
  Refused k why g = StepIsRefused above spec usable (goal_clause g) steps k why

  none_so : (P : Goal → Type 0) → (P goal → ⊥) → OfGoal spec name P → ⊥
  none_so P h = not_of_goal spec fine name goal named P h

  -- a step after which one is refused isn't refused
  before_refused : (k : ℕ) (why : Why) → Refused k why goal → (j : ℕ) → j < k → (reason : Why) →
      Refused j reason goal → ⊥
  before_refused k why h j l reason (step, made, at, makes, refused) =
      none_refused above one spec fine usable (goal_clause goal) (take k steps) h.1 h.3 j reason (
        step,
        made,
        get_taken steps j k l ∙ at,
        subst (λ s. StepsMake above spec usable (goal_clause goal ∷ []) 0 s made)
            (sym (take_taken steps j k l)) makes,
        refused,
      )

  abbrev IsFirst : ℕ → ReplayWhy → Type 0
  IsFirst at why = First (block_tests above spec before line name steps) (at, why)

  fits : IsWithin (goal_clause goal) → OfGoal spec name (λ g. ¬ (IsWithin (goal_clause g))) → ⊥
  fits within = none_so (λ g. ¬ (IsWithin (goal_clause g))) (λ h. h within)

  -- the goal's clause passes a limit
  pub first_limit : (IsWithin (goal_clause goal) → ⊥) → IsFirst line (of_step Limit)
  first_limit h = inl ((goal, named, h), refl)

  one_reason_of_goal : (k : ℕ) (a b : Why) → OfGoal spec name (Refused k a) → OfGoal spec name (Refused k b) → a ≡ b
  one_reason_of_goal k a b (g, n, p) (h, m, q) =
      refused_one above one spec fine usable (goal_clause g) steps k a b p
      (subst (Refused k b) (goal_named_one spec fine name h g m n) q)

  step_first : (k : ℕ) (why : Why) → Refused k why goal →
      First (step_tests above spec before line name steps k) (line + suc k, of_step why)
  step_first k why h = first_reason (line + suc k) (λ w. OfGoal spec name (Refused k w)) (one_reason_of_goal k)
      why (goal, named, h)

  -- the steps before make something, and this step is refused
  pub first_step : (k : ℕ) (why : Why) → k < length steps → IsWithin (goal_clause goal) → Refused k why goal →
      IsFirst (line + suc k) (of_step why)
  first_step k why l within h = inr (
    fits within,
    inl (first_in_range (step_tests above spec before line name steps) (length steps) k (
      line + suc k,
      of_step why,
    ) l (λ j i. each_clean (reason_test above spec before line name steps j) all_reasons
        (λ reason. none_so (Refused j reason) (before_refused k why h j i reason))) (step_first k why h)),
  )

  module _ (within : IsWithin (goal_clause goal)) (made : List Children)
      (makes : StepsMake above spec usable (goal_clause goal ∷ []) 0 steps made) where
    all_steps : Clean (each (step_tests above spec before line name steps) (range_with_len 0 (length steps)))
    all_steps = each_clean (step_tests above spec before line name steps) (range_with_len 0 (length steps))
        (steps_clean above one spec fine before line name goal named steps made makes)

    -- all steps make something, and there are more nodes
    pub first_pending : length steps < length (nodes_of (goal_clause goal) made) → IsFirst line Pending
    first_pending l = inr (fits within, inr (all_steps, inl ((goal, named, (made, makes, l)), refl)))

    -- there are as many nodes, and this one isn't allowed, but all before it
    pub first_larger : length (nodes_of (goal_clause goal) made) ≡ length steps → (k : ℕ) → k < length steps →
        ((j : ℕ) → j < k → NodeIsAllowed made j) → (NodeIsAllowed made k → ⊥) → IsFirst (line + suc k) NotSmaller
    first_larger finished k l allowed not = inr (
      fits within,
      inr (
        all_steps,
        inr (
          none_so (λ g. IsPending above spec usable (goal_clause g) steps)
              (not_pending above one spec fine before line name goal named steps made makes finished),
          first_in_range (order_test above spec before line name steps) (length steps) k (
            line + suc k,
            NotSmaller,
          ) l (λ j i. none_so (λ g. IsNotSmaller above spec usable (goal_clause g) steps j)
              (not_larger above one spec fine before line name goal named steps made makes j (allowed j i)))
              ((goal, named, (made, makes, not)), refl),
        ),
      ),
    )
