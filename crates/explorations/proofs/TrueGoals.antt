-- What an exploration proves is true of the specification without further goals.
use Rattle.std.proofs.Common.{◌≡◌, ℕ, zero, suc, List, [], ◌∷◌, Some, None, inl, inr, sym, ◌∙◌, subst, ap}
use Rattle.std.specs.Prelude.{slice_get}
use Rattle.std.specs.List.{AllByRecursion}
use Rattle.spec_core.specs.declared.records.Goal.{Goal}
use Rattle.spec_core.specs.declared.records.Spec.{Spec}
use Rattle.spec_core.specs.Truth.{GoalIsTrue}
use Rattle.spec_core.specs.WellSorted.{GoalNamesAreDistinct}
use Rattle.spec_grammar.specs.declared.raw.RawSpec.{RawSpec}
use Rattle.clause_core.specs.declared.reports.Claim.{Claim}
use Rattle.clause_core.specs.declared.reports.Outcome.{Outcome}
use Rattle.clause_core.specs.declared.reports.Outcome.TheVariants.{Proved, Refuted, Open}
use Rattle.clause_core.specs.declared.reports.Report.{Report}
use Rattle.acceptance.specs.Claims.{IsGoalNamed, IsProvedBy, SaysProved}
use Rattle.soundness.specs.ReportTruth.{ClaimIsTrue, OutcomeIsTrue}
use Rattle.added_goals.specs.Additions.{AreKept}
use Rattle.added_goals.specs.Laws.{AddingKeepsMeaning}
use Rattle.explorations.specs.Explorations.{IsExplorationAs}
use Rattle.explorations.specs.Laws.{ProvedAreTrue}

outcome_true : (spec : Spec) (goal : Goal) (outcome : Outcome) → SaysProved outcome →
    OutcomeIsTrue spec goal outcome → GoalIsTrue spec goal
outcome_true spec goal (Proved block) says is = is
outcome_true spec goal (Refuted index values) says is = absurd says
outcome_true spec goal (Open budget) says is = absurd says

-- a proved name is that of a goal that is true
proved_true : (spec : Spec) (name : List ℕ) (claims : List Claim) → AllByRecursion (ClaimIsTrue spec) claims →
    IsProvedBy name claims → (goal : Goal) × IsGoalNamed spec name goal × GoalIsTrue spec goal
proved_true spec name [] are h = absurd h
proved_true spec name (claim ∷ claims) are (inl h) = (
  are.0.0,
  subst (λ (n : List ℕ). IsGoalNamed spec n are.0.0) h.0 are.0.1,
  outcome_true spec are.0.0 claim.outcome h.1 are.0.2,
)
proved_true spec name (claim ∷ claims) are (inr h) = proved_true spec name claims are.1 h

-- a name is that of one goal
named_true : (spec : Spec) → GoalNamesAreDistinct spec.goals → (number : ℕ) (goal : Goal) →
    slice_get spec.goals number ≡ Some goal →
    (found : Goal) → IsGoalNamed spec goal.name found → GoalIsTrue spec found → GoalIsTrue spec goal
named_true spec distinct number goal at found named is =
    let same : named.0 ≡ number = distinct named.0 number found goal named.1 at named.2 in
    let q : Some found ≡ Some goal = sym named.1 ∙ ap (λ n. slice_get spec.goals n) same ∙ at in
    let e : found ≡ goal = cc in
    subst (λ (g : Goal). GoalIsTrue spec g) e is

-- an old goal is one of the new ones
kept_at : (old new : List Goal) → AreKept old new → (number : ℕ) (goal : Goal) → slice_get old number ≡ Some goal →
    (place : ℕ) × (slice_get new place ≡ Some goal)
kept_at [] new kept number goal at = absurd (let q : None ≡ Some goal = at in cc)
kept_at (first ∷ old) [] kept number goal at = absurd kept
kept_at (first ∷ old) (next ∷ new) (inl kept) zero goal at = (0, ap (λ g. Some g) kept.0 ∙ at)
kept_at (first ∷ old) (next ∷ new) (inl kept) (suc number) goal at =
    let later = kept_at old new kept.1 number goal at in
    (suc later.0, later.1)
kept_at (first ∷ old) (next ∷ new) (inr kept) number goal at =
    let later = kept_at (first ∷ old) new kept number goal at in
    (suc later.0, later.1)

module _ (keeps : AddingKeepsMeaning) (old : Spec) (base : Report) (text report_text : List ℕ)
    (raw : RawSpec) (new : Spec) (report : Report)
    (e : IsExplorationAs old base text raw new report_text report) where
  new_true : ProvedAreTrue old new.goals report.claims
  new_true number goal at proved =
      let found = proved_true new goal.name report.claims e.true proved in
      ((keeps old new e.adds).true goal).0
      (named_true new e.accepted.stands.numbered.names number goal at found.0 found.1 found.2)

  pub all_true : ProvedAreTrue old old.goals report.claims × ProvedAreTrue old new.goals report.claims
  all_true = (
    (λ number goal at proved.
        let kept = kept_at old.goals new.goals e.adds.goals number goal at in
        new_true kept.0 goal kept.1 proved),
    new_true,
  )
