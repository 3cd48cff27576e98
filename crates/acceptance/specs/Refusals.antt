-- Where a report is first refused: the tests of its claims in their order, each with the line and
-- the reason that it tells.
use Rattle.std.specs.Prelude.{ℕ, suc, ◌+◌, List, [], ◌∷◌, map, sum, length}
use Rattle.std.specs.List.{range_with_len}
use Rattle.term_core.specs.Tree.{Tree}
use Rattle.spec_core.specs.declared.records.Goal.{Goal}
use Rattle.spec_core.specs.declared.records.Spec.{Spec}
use Rattle.spec_core.specs.Findings.{Search, nothing, test, then, each, each_after, Clean, First}
use Rattle.clause_core.specs.declared.steps.Step.{Step}
use Rattle.clause_core.specs.declared.answers.Why.{Why}
use Rattle.clause_core.specs.declared.answers.Why.TheVariants.{NoSuchNode, NoSuchPlace, NoSuchRule, DoesNotFit}
use Rattle.clause_core.specs.declared.answers.Why.TheVariants.{NotProvedBefore, Sort, NotCovering, Limit}
use Rattle.clause_core.specs.declared.reports.ReplayWhy.{ReplayWhy}
use Rattle.clause_core.specs.declared.reports.ReplayWhy.TheVariants.{UnknownGoal, GoalTwice, Step as of_step, Pending}
use Rattle.clause_core.specs.declared.reports.ReplayWhy.TheVariants.{NotSmaller, Variables, NotFalse}
use Rattle.clause_core.specs.declared.reports.Claim.{Claim}
use Rattle.clause_core.specs.declared.reports.Outcome.{Outcome}
use Rattle.clause_core.specs.declared.reports.Outcome.TheVariants.{Proved, Refuted, Open}
use Rattle.clause_core.specs.declared.reports.Report.{Report}
use Rattle.clause_core.specs.Limits.{IsWithin}
use Rattle.clause_core.specs.Tidied.{goal_clause}
use Rattle.acceptance.specs.Claims.{IsClaimed, IsGoalNamed, ProvedBefore}
use Rattle.acceptance.specs.Accepting.{AreNamedValues, HasFailed}
use Rattle.acceptance.specs.StepRefusals.{IsNotSmaller, IsPending, StepIsRefused}

-- the lines of a claim: its first line, and one for each step or value
abbrev pub lines_of : Outcome → ℕ
lines_of (Proved block) = suc (length block.steps)
lines_of (Refuted index values) = suc (length values)
lines_of (Open budget) = 1

-- the first line of the claim after these; lines count from 1, and two come before all claims
abbrev pub line_after : List Claim → ℕ
line_after before = 3 + sum (map (λ (claim : Claim). lines_of claim.outcome) before)

abbrev pub all_reasons : List Why
all_reasons =
    NoSuchNode ∷ NoSuchPlace ∷ NoSuchRule ∷ DoesNotFit ∷ NotProvedBefore ∷ Sort ∷ NotCovering
    ∷ Limit ∷ []

-- a refusal: the line, and the reason
abbrev pub Refusal : Type 0
Refusal = ℕ × ReplayWhy

-- this is so of the goal of this name
abbrev pub OfGoal : Spec → List ℕ → (Goal → Type 0) → Type 0
OfGoal spec name P = (goal : Goal) × IsGoalNamed spec name goal × P goal

-- the tests of a claim on the goal of this name, after these claims; its first line is given
module _
    (above : Tree → Tree → Type 0) (spec : Spec) (before : List Claim) (line : ℕ) (name : List ℕ)
  where
    -- those of a block of these steps, which are on the lines after the first one
    module _ (steps : List Step) where
      -- step k is refused for this reason
      abbrev pub reason_test : ℕ → Why → Search Refusal
      reason_test k why =
          test (line + suc k, of_step why) (OfGoal spec name (λ goal.
          StepIsRefused above spec (ProvedBefore spec before) (goal_clause goal) steps k why))

      -- or for one of all reasons, of which one applies at most
      abbrev pub step_tests : ℕ → Search Refusal
      step_tests k = each (reason_test k) all_reasons

      -- there are more nodes than steps
      abbrev pub pending_test : Search Refusal
      pending_test =
          test (line, Pending) (OfGoal spec name (λ goal.
          IsPending above spec (ProvedBefore spec before) (goal_clause goal) steps))

      -- a child or a reference at step k isn't allowed
      abbrev pub order_test : ℕ → Search Refusal
      order_test k =
          test (line + suc k, NotSmaller) (OfGoal spec name (λ goal.
          IsNotSmaller above spec (ProvedBefore spec before) (goal_clause goal) steps k))

      -- first the goal's clause, then the steps, then what they leave, and last what is allowed
      abbrev pub block_tests : Search Refusal
      block_tests =
          then (test (line, of_step Limit)
          (OfGoal spec name (λ goal. ¬ (IsWithin (goal_clause goal)))))
          (then (each step_tests (range_with_len 0 (length steps)))
          (then pending_test
          (each order_test (range_with_len 0 (length steps)))))

    -- those of an outcome, if a verdict has this many steps for each side; an open one has none
    abbrev pub outcome_tests : ℕ → Outcome → Search Refusal
    outcome_tests budget (Proved block) = block_tests block.steps
    outcome_tests budget (Refuted index values) =
        then (test (line, Variables)
        (OfGoal spec name (λ goal. ¬ (AreNamedValues spec goal values))))
        (test (line, NotFalse) (OfGoal spec name (λ goal. ¬ (HasFailed spec budget goal values))))
    outcome_tests budget (Open numbers) = nothing

    -- first the goal's name, then whether a claim before has it, and last the outcome
    abbrev pub claim_tests : ℕ → Outcome → Search Refusal
    claim_tests budget outcome =
        then (test (line, UnknownGoal) (¬ (OfGoal spec name (λ goal. Unit {0}))))
        (then (test (line, GoalTwice) (IsClaimed name before))
        (outcome_tests budget outcome))

-- the claims in order, each with those before it
abbrev pub report_tests : (Tree → Tree → Type 0) → Spec → Report → Search Refusal
report_tests above spec report =
    each_after (λ before (claim : Claim).
    claim_tests above spec before (line_after before) claim.goal report.steps claim.outcome)
    [] report.claims

-- the report is first refused at this line, for this reason
abbrev pub IsFirstRefusal : (Tree → Tree → Type 0) → Spec → Report → ℕ → ReplayWhy → Type 0
IsFirstRefusal above spec report line why = First (report_tests above spec report) (line, why)

-- no test refuses the report
abbrev pub HasNoRefusal : (Tree → Tree → Type 0) → Spec → Report → Type 0
HasNoRefusal above spec report = Clean (report_tests above spec report)
