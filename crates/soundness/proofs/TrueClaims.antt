-- What an accepted report claims is true, if each term has a value.
use Rattle.std.proofs.Common.{◌≡◌, ◌⊎◌, ℕ, zero, suc, List, [], ◌∷◌, ◌++◌, Some, inl, inr, ◌∙◌, subst, arith}
use Rattle.std.specs.Prelude.{Contains, slice_get}
use Rattle.std.specs.List.{AllByRecursion}
use Rattle.term_core.specs.Tree.{Tree}
use Rattle.spec_core.specs.declared.records.Goal.{Goal}
use Rattle.spec_core.specs.declared.records.Spec.{Spec}
use Rattle.spec_core.specs.Truth.{GoalIsTrue}
use Rattle.spec_core.specs.WellSorted.{IsWellSorted}
use Rattle.term_order.specs.Laws.{HasRanks}
use Rattle.clause_core.specs.declared.steps.Step.{Step}
use Rattle.clause_core.specs.declared.reports.Claim.{Claim}
use Rattle.clause_core.specs.declared.reports.Outcome.{Outcome}
use Rattle.clause_core.specs.declared.reports.Outcome.TheVariants.{Proved, Refuted, Open}
use Rattle.clause_core.specs.Tidied.{variables_of, written_clause, goal_clause}
use Rattle.clause_core.specs.Admitted.{IsAdmitted}
use Rattle.acceptance.specs.Blocks.{Proves}
use Rattle.acceptance.specs.Claims.{SaysProved, IsProvedBy, IsGoalNamed, ProvedBefore}
use Rattle.acceptance.specs.Accepting.{values_in, IsShown, ClaimsAreAccepted}
use Rattle.descent.specs.Descent.{AreTrue, StepsDescend}
use Rattle.descent.specs.SortedChildren.{ChildrenAreSorted}
use Rattle.soundness.specs.ReportTruth.{OutcomeIsTrue, ClaimIsTrue}
use Rattle.clause_core.proofs.OneReferred.{one_get}
use Rattle.clause_core.specs.Failing.{values_at}
use Rattle.clause_core.proofs.TidiedFails.{keeps_failing}
use Rattle.clause_core.proofs.TidiedSorts.{keeps_sorts}
use Rattle.soundness.proofs.ProvedBlocks.{proved_fails_not}
use Rattle.soundness.proofs.TrueGoals.{written_sorted, HaveValues, true_goal, verdict_fails}

-- what the last claim proves, or those before it
proved_by : (name : List ℕ) (before : List Claim) (claim : Claim) → IsProvedBy name (before ++ (claim ∷ [])) →
    IsProvedBy name before ⊎ ((claim.goal ≡ name) × SaysProved claim.outcome)
proved_by name [] claim (inl h) = inr h
proved_by name [] claim (inr h) = absurd h
proved_by name (c ∷ cs) claim (inl h) = inl (inl h)
proved_by name (c ∷ cs) claim (inr h) = elim (proved_by name cs claim h) [ inl p ↦ inl (inr p) | inr p ↦ inr p ]

contains_first : (m n : ℕ) (ns : List ℕ) → m ≡ n → Contains (m ∷ ns) n
contains_first m n ns e = (0, omega arith, e)

contains_more : (m n : ℕ) (ns : List ℕ) → Contains ns n → Contains (m ∷ ns) n
contains_more m n ns (k, l, e) = (suc k, omega (arith, l), e)

module _ (above : Tree → Tree → Type 0) (rank : ℕ → ℕ → Tree → ℕ → Type 0) (laws : HasRanks above rank)
    (descend : StepsDescend above rank) (keep : ChildrenAreSorted above) (spec : Spec)
    (fine : IsWellSorted spec) (admitted : IsAdmitted above spec) (valued : HaveValues spec) (steps : ℕ) where
  -- the goals of these numbers are true, and each that may be used is one of them
  pub record Known (before : List Claim) : Type 0 where
    pub numbers : List ℕ
    pub are_true : AreTrue spec numbers
    pub has : (n : ℕ) → ProvedBefore spec before n → Contains numbers n

  nothing_known : Known []
  nothing_known = record {
    numbers = [];
    are_true = λ n goal c at. absurd (omega (arith, c.1));
    has = λ n p.
        absurd p.2;
  }

  proved_true : (before : List Claim) (k : Known before) (n : ℕ) (goal : Goal) →
      slice_get spec.goals n ≡ Some goal → (block : List Step) →
      Proves above spec (ProvedBefore spec before) (goal_clause goal) block → GoalIsTrue spec goal
  proved_true before k n goal at block p =
      let sorted = written_sorted spec.sig goal (fine.goals n goal at) in
      true_goal spec valued goal (fine.goals n goal at)
      (λ xs fails. proved_fails_not above rank laws descend keep spec fine admitted k.numbers k.are_true
      (ProvedBefore spec before) k.has (goal_clause goal) block
      (keeps_sorts spec.sig (written_clause goal) fine.signature sorted) p
      (values_at (variables_of (written_clause goal)) xs)
      (keeps_failing spec (written_clause goal) xs sorted fails))

  outcome_true : (before : List Claim) (k : Known before) (n : ℕ) (goal : Goal) →
      slice_get spec.goals n ≡ Some goal → (outcome : Outcome) → IsShown above spec steps before goal outcome →
      OutcomeIsTrue spec goal outcome
  outcome_true before k n goal at (Proved block) p = proved_true before k n goal at block.steps p
  outcome_true before k n goal at (Refuted index values) p = (
    p.0.sorts,
    verdict_fails spec (values_in values) steps goal p.1,
  )
  outcome_true before k n goal at (Open budget) p = tt

  more_known : (before : List Claim) (k : Known before) (claim : Claim) (goal : Goal)
      (named : IsGoalNamed spec claim.goal goal) (outcome : Outcome) →
      (SaysProved claim.outcome → SaysProved outcome) → OutcomeIsTrue spec goal outcome → Known (before ++ (claim ∷ []))
  more_known before k claim goal named (Proved block) same t = record {
    numbers = named.0 ∷ k.numbers;
    are_true = true_by;
    has = λ n p. elim (proved_by p.0.name before claim p.2) [
      | inl q ↦ contains_more named.0 n k.numbers (k.has n (p.0, p.1, q))
      | inr q ↦ contains_first named.0 n k.numbers (fine.names named.0 n goal p.0 named.1 p.1 (named.2 ∙ q.0))
    ];
  }
    where
      true_by : AreTrue spec (named.0 ∷ k.numbers)
      true_by n other (zero, l, e) at = subst (λ g. GoalIsTrue spec g)
          (one_get spec.goals named.0 n goal other named.1 at e) t
      true_by n other (suc i, l, e) at = k.are_true n other (i, omega (arith, l), e) at
  more_known before k claim goal named (Refuted index values) same
      t = record {
        numbers = k.numbers;
        are_true = k.are_true;
        has = λ n p. elim
            (proved_by p.0.name before claim p.2) [ inl q ↦ k.has n (p.0, p.1, q) | inr q ↦ absurd (same q.1) ];
      }
  more_known before k claim goal named (Open budget) same
      t = record {
        numbers = k.numbers;
        are_true = k.are_true;
        has = λ n p. elim
            (proved_by p.0.name before claim p.2) [ inl q ↦ k.has n (p.0, p.1, q) | inr q ↦ absurd (same q.1) ];
      }

  claims_true : (before : List Claim) → Known before → (claims : List Claim) →
      ClaimsAreAccepted above spec steps before claims → AllByRecursion (ClaimIsTrue spec) claims
  claims_true before k [] accepted = tt
  claims_true before k (claim ∷ claims) accepted =
      let a = accepted.0 in
      let t = outcome_true before k a.named.0 a.goal a.named.1 claim.outcome a.shown in (
        (a.goal, a.named, t),
        claims_true (before ++ (claim ∷ [])) (more_known before k claim a.goal a.named claim.outcome (λ s. s)
            t) claims accepted.1,
      )

  pub all_claims_true : (claims : List Claim) → ClaimsAreAccepted above spec steps [] claims →
      AllByRecursion (ClaimIsTrue spec) claims
  all_claims_true claims accepted = claims_true [] nothing_known claims accepted
