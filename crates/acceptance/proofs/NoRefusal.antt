-- No test refuses what is accepted.
use Rattle.std.proofs.Common.{◌≡◌, ℕ, List, [], ◌∷◌, ◌++◌, sym, ◌∙◌, subst, arith, length, ap}
use Rattle.std.specs.List.{range_with_len}
use Rattle.term_core.specs.Tree.{Tree}
use Rattle.spec_core.specs.declared.records.Goal.{Goal}
use Rattle.spec_core.specs.declared.records.Spec.{Spec}
use Rattle.spec_core.specs.WellSorted.{IsWellSorted}
use Rattle.spec_core.specs.Findings.{Search, Clean, each, each_after}
use Rattle.clause_core.specs.declared.steps.Step.{Step}
use Rattle.clause_core.specs.declared.answers.Children.{Children}
use Rattle.clause_core.specs.declared.reports.Claim.{Claim}
use Rattle.clause_core.specs.declared.reports.Outcome.{Outcome}
use Rattle.clause_core.specs.declared.reports.Outcome.TheVariants.{Proved, Refuted, Open}
use Rattle.clause_core.specs.declared.reports.Report.{Report}
use Rattle.clause_core.specs.ClauseLaws.{OneRelation}
use Rattle.clause_core.specs.Limits.{IsWithin}
use Rattle.clause_core.specs.Tidied.{goal_clause}
use Rattle.clause_core.proofs.OneReferred.{one_get}
use Rattle.acceptance.specs.Strict.{NodeIsAllowed}
use Rattle.acceptance.specs.Blocks.{nodes_of, StepsMake, Proves}
use Rattle.acceptance.specs.Claims.{IsGoalNamed, ProvedBefore}
use Rattle.acceptance.specs.Accepting.{AreNamedValues, HasFailed, IsShown, ClaimIsAccepted, ClaimsAreAccepted}
use Rattle.acceptance.specs.Accepting.{IsAccepted}
use Rattle.acceptance.specs.Refusals.{all_reasons, OfGoal, reason_test, step_tests, order_test, block_tests}
use Rattle.acceptance.specs.Refusals.{outcome_tests, claim_tests, line_after, HasNoRefusal, Refusal}
use Rattle.acceptance.specs.StepRefusals.{StepIsRefused, IsPending, IsNotSmaller}
use Rattle.acceptance.proofs.OneBlock.{steps_one, none_refused}

pub each_clean : {F A : Type 0} (f : A → Search F) (xs : List A) → ((x : A) → Clean (f x)) → Clean (each f xs)
each_clean f [] h = tt
each_clean f (x ∷ xs) h = (h x, each_clean f xs h)

-- a name is that of one goal
pub goal_named_one : (spec : Spec) → IsWellSorted spec → (name : List ℕ) (g h : Goal) →
    IsGoalNamed spec name g → IsGoalNamed spec name h → g ≡ h
goal_named_one spec fine name g h p q = one_get spec.goals p.0 q.0 g h p.1 q.1
    (fine.names p.0 q.0 g h p.1 q.1 (p.2 ∙ sym q.2))

-- what isn't so of the goal isn't so of any goal of this name
pub not_of_goal : (spec : Spec) → IsWellSorted spec → (name : List ℕ) (goal : Goal) →
    IsGoalNamed spec name goal → (P : Goal → Type 0) → (P goal → ⊥) → OfGoal spec name P → ⊥
not_of_goal spec fine name goal named P h (g, n, p) = h (subst P (goal_named_one spec fine name g goal n named) p)

module _ (above : Tree → Tree → Type 0) (one : OneRelation above) (spec : Spec) (fine : IsWellSorted spec)
    (before : List Claim) (line : ℕ) (name : List ℕ) (goal : Goal) (named : IsGoalNamed spec name goal) where
  abbrev none_so : (P : Goal → Type 0) → (P goal → ⊥) → OfGoal spec name P → ⊥
  none_so P h = not_of_goal spec fine name goal named P h

  module _ (steps : List Step) (made : List Children) (makes : StepsMake above spec (ProvedBefore spec before)
      (goal_clause goal ∷ []) 0 steps made) where
    -- the tests of a block whose steps make something find nothing at a step, ...
    pub steps_clean : (k : ℕ) → Clean (step_tests above spec before line name steps k)
    steps_clean k = each_clean (reason_test above spec before line name steps k) all_reasons
        (λ why. none_so (λ g. StepIsRefused above spec (ProvedBefore spec before) (goal_clause g) steps k why)
        (none_refused above one spec fine (ProvedBefore spec before) (goal_clause goal) steps made makes k why))

    same_made : (others : List Children) →
        StepsMake above spec (ProvedBefore spec before) (goal_clause goal ∷ []) 0 steps others → others ≡ made
    same_made others p = steps_one above one spec fine (ProvedBefore spec before) (goal_clause goal ∷ []) 0
        steps others made p makes

    -- nor nodes without a step, if there are as many, ...
    pub not_pending : length (nodes_of (goal_clause goal) made) ≡ length steps →
        IsPending above spec (ProvedBefore spec before) (goal_clause goal) steps → ⊥
    not_pending finished (others, p, more) =
        let n : length (nodes_of (goal_clause goal) others) ≡ length steps = ap
        (λ (x : List Children). length (nodes_of (goal_clause goal) x)) (same_made others p) ∙ finished in
        omega (arith, n, more)

    -- nor a child or a reference at an allowed node
    pub not_larger : (k : ℕ) → NodeIsAllowed made k →
        IsNotSmaller above spec (ProvedBefore spec before) (goal_clause goal) steps k → ⊥
    not_larger k allowed (others, p, not) = not (subst (λ x. NodeIsAllowed x k) (sym (same_made others p)) allowed)

  block_clean : (steps : List Step) → Proves above spec (ProvedBefore spec before) (goal_clause goal) steps →
      Clean (block_tests above spec before line name steps)
  block_clean steps p = (
    none_so (λ g. ¬ (IsWithin (goal_clause g))) (λ h. h p.within),
    (
      each_clean (step_tests above spec before line name steps) (range_with_len 0 (length steps))
          (steps_clean steps p.made p.makes),
      (
        none_so (λ g. IsPending above spec (ProvedBefore spec before) (goal_clause g) steps)
            (not_pending steps p.made p.makes p.finished),
        each_clean (order_test above spec before line name steps) (range_with_len 0 (length steps))
            (λ k. none_so (λ g. IsNotSmaller above spec (ProvedBefore spec before) (goal_clause g) steps k)
            (not_larger steps p.made p.makes k (p.allowed k))),
      ),
    ),
  )

  outcome_clean : (budget : ℕ) (outcome : Outcome) → IsShown above spec budget before goal outcome →
      Clean (outcome_tests above spec before line name budget outcome)
  outcome_clean budget (Proved block) p = block_clean block.steps p
  outcome_clean budget (Refuted index values) p = (
    none_so (λ g. ¬ (AreNamedValues spec g values)) (λ h. h p.0),
    none_so (λ g. ¬ (HasFailed spec budget g values)) (λ h. h p.1),
  )
  outcome_clean budget (Open numbers) p = tt

module _ (above : Tree → Tree → Type 0) (one : OneRelation above) (spec : Spec) (fine : IsWellSorted spec)
    (budget : ℕ) where
  abbrev tests_at : List Claim → Claim → Search Refusal
  tests_at before claim = claim_tests above spec before (line_after before) claim.goal budget claim.outcome

  pub claim_clean : (before : List Claim) (claim : Claim) → ClaimIsAccepted above spec budget before claim →
      Clean (tests_at before claim)
  claim_clean before claim a = (
    λ h. h (a.goal, a.named, tt),
    (
      a.first,
      outcome_clean above one spec fine before (line_after before) claim.goal a.goal a.named budget
          claim.outcome a.shown,
    ),
  )

  claims_clean : (before claims : List Claim) → ClaimsAreAccepted above spec budget before claims →
      Clean (each_after tests_at before claims)
  claims_clean before [] a = tt
  claims_clean before (claim ∷ claims) a = (
    claim_clean before claim a.0,
    claims_clean (before ++ claim ∷ []) claims a.1,
  )

-- no test refuses an accepted report
pub accepted_clean : (above : Tree → Tree → Type 0) → OneRelation above → (spec : Spec) → IsWellSorted spec →
    (report : Report) → IsAccepted above spec report → HasNoRefusal above spec report
accepted_clean above one spec fine report a = claims_clean above one spec fine report.steps [] report.claims a
