-- Claims that are tested one after the other.
use Rattle.std.proofs.Common.{◌≡◌, ℕ, ◌+◌, ◌<◌, ◌≤◌, List, [], ◌∷◌, ◌++◌, false, true, inr, sym, ◌∙◌, subst, arith}
use Rattle.std.proofs.Common.{length, map, take, get_or, add-zero}
use Rattle.std.specs.Prelude.{Some, Err, slice_get, sum}
use Rattle.std.proofs.lemmas.List.{take_all}
use Rattle.std.proofs.lemmas.List.Sums.{sum-map, sum_by-append, sum_by-cons}
use Rattle.term_core.specs.Tree.{Tree}
use Rattle.term_core.proofs.Items.{taken_next}
use Rattle.spec_core.specs.declared.records.Goal.{Goal}
use Rattle.spec_core.specs.declared.records.Spec.{Spec}
use Rattle.spec_core.specs.Findings.{Search, First}
use Rattle.spec_core.specs.WellSorted.{IsWellSorted}
use Rattle.spec_core.proofs.Findings.{after_stops}
use Rattle.clause_core.specs.declared.reports.Claim.{Claim}
use Rattle.clause_core.specs.declared.reports.ReplayWhy.{ReplayWhy}
use Rattle.clause_core.specs.declared.reports.Report.{Report}
use Rattle.clause_core.specs.ClauseLaws.{OneRelation}
use Rattle.replay_check.specs.Finds.{Finds}
use Rattle.claimed_goals.specs.Tracking.{Tracks}
use Rattle.claimed_goals.specs.declared.goals.ClaimedGoals.{ClaimedGoals}
use Rattle.replay_check.specs.declared.answers.Stop.{Stop}
use Rattle.replay_check.specs.declared.answers.Stop.TheVariants.{Refused, OutOfMemory}
use Rattle.acceptance.specs.Claims.{IsClaimed}
use Rattle.acceptance.specs.Accepting.{IsShown, ClaimIsAccepted, ClaimsAreAccepted, IsAccepted}
use Rattle.acceptance.specs.Refusals.{Refusal, lines_of, line_after, outcome_tests, claim_tests, report_tests}
use Rattle.acceptance.proofs.Longer.{claims_longer}
use Rattle.acceptance.proofs.NoRefusal.{accepted_clean}

-- the line after a claim
pub line_more : (before : List Claim) (claim : Claim) →
    line_after (before ++ claim ∷ []) ≡ line_after before + lines_of claim.outcome
line_more before claim =
    let lines = λ (c : Claim). lines_of c.outcome in
    let e : sum (map lines (before ++ claim ∷ [])) ≡ sum (map lines before) + lines claim =
    sum-map lines (before ++ claim ∷ []) ∙ sum_by-append lines before (claim ∷ [])
    ∙ (λ i. sym (sum-map lines before) i + (sum_by-cons lines claim [] ∙ add-zero (lines claim)) i) in
    omega (arith, e)

module _ (above : Tree → Tree → Type 0) (one : OneRelation above) (spec : Spec) (fine : IsWellSorted spec)
    (report : Report) (i : ℕ) where
  abbrev pub AcceptedBefore : Type 0
  AcceptedBefore = ClaimsAreAccepted above spec report.steps [] (take i report.claims)

  pub all_accepted : length report.claims ≤ i → AcceptedBefore → IsAccepted above spec report
  all_accepted end a = subst (λ cs. ClaimsAreAccepted above spec report.steps [] cs) (take_all i report.claims end) a

  module _ (claim : Claim) (lt : i < length report.claims) (is : claim ≡ get_or report.claims i claim)
      (a : AcceptedBefore) where
    pub accepted_more : ClaimIsAccepted above spec report.steps (take i report.claims) claim →
        ClaimsAreAccepted above spec report.steps [] (take (i + 1) report.claims)
    accepted_more h = subst (λ cs. ClaimsAreAccepted above spec report.steps [] cs)
        (sym (taken_next report.claims i claim lt is))
        (claims_longer above spec report.steps [] (take i report.claims) a claim h)

    abbrev tests : List Claim → Claim → Search Refusal
    tests before c = claim_tests above spec before (line_after before) c.goal report.steps c.outcome

    pub refused_here : (line place : ℕ) (why : ReplayWhy) → line ≡ line_after (take i report.claims) →
        First (claim_tests above spec (take i report.claims) line claim.goal report.steps claim.outcome) (
          place,
          why,
        ) → First (report_tests above spec report) (place, why)
    refused_here line place why at h =
        after_stops tests report.claims i claim (
          place,
          why,
        ) lt is (accepted_clean above one spec fine
        (record { steps = report.steps; claims = take i report.claims }) a)
        (subst (λ l. First (claim_tests above spec (take i report.claims) l claim.goal report.steps
        claim.outcome) (place, why)) at h)

    pub claim_stops : (Q : ℕ → Type 0) (P : Unit {0} → Type 0) (line : ℕ) (stop : Stop) →
        line ≡ line_after (take i report.claims) →
        Finds {T = ℕ} (claim_tests above spec (take i report.claims) line claim.goal report.steps claim.outcome)
        Q (Err stop) → Finds {T = Unit {0}} (report_tests above spec report) P (Err stop)
    claim_stops Q P line (Refused place why) at h = refused_here line place why at h
    claim_stops Q P line OutOfMemory at h = tt

-- a claim on the goal of this name, which no claim before it is on
module _ (above : Tree → Tree → Type 0) (spec : Spec) (before : List Claim) (claim : Claim) (goal : Goal)
    (number : ℕ) (at : slice_get spec.goals number ≡ Some goal) (named : goal.name ≡ claim.goal)
    (first : IsClaimed claim.goal before → ⊥) (steps line : ℕ) where
  pub outcome_stops : (P : Unit {0} → Type 0) (Q : ℕ → Type 0) (stop : Stop) →
      Finds {T = Unit {0}} (outcome_tests above spec before line goal.name steps claim.outcome) P (Err stop) →
      Finds {T = ℕ} (claim_tests above spec before line claim.goal steps claim.outcome) Q (Err stop)
  outcome_stops P Q (Refused place why) h =
      inr (
        λ no. no (goal, (number, at, named), tt),
        inr (
          first,
          subst (λ n. First (outcome_tests above spec before line n steps claim.outcome) (
            place,
            why,
          )) named h,
        ),
      )
  outcome_stops P Q OutOfMemory h = tt

  pub outcome_accepted : IsShown above spec steps before goal claim.outcome →
      ClaimIsAccepted above spec steps before claim
  outcome_accepted h = record { goal = goal; named = (number, at, named); first = first; shown = h }

-- no claim is on a goal whose flag isn't set
pub first_claim : (spec : Spec) (before : List Claim) (goals : ClaimedGoals) → Tracks spec before goals →
    (number : ℕ) (goal : Goal) → slice_get spec.goals number ≡ Some goal → (name : List ℕ) → goal.name ≡ name →
    get_or goals.claimed.items number false ≡ false → IsClaimed name before → ⊥
first_claim spec before goals t number goal at name named flag h =
    let on : get_or goals.claimed.items number false ≡ true = (t.claimed number goal at).1
    (subst (λ n. IsClaimed n before) (sym named) h) in
    let e : true ≡ false = sym on ∙ flag in
    cc
