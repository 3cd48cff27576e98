-- What is true of a report.
use Rattle.std.specs.List.{AllByRecursion}
use Rattle.spec_core.specs.declared.records.Goal.{Goal}
use Rattle.spec_core.specs.declared.records.Spec.{Spec}
use Rattle.spec_core.specs.Truth.{AreValuesOf, GoalFails, GoalIsTrue}
use Rattle.spec_core.specs.WellSorted.{sorts_of}
use Rattle.clause_core.specs.declared.reports.Claim.{Claim}
use Rattle.clause_core.specs.declared.reports.Outcome.{Outcome}
use Rattle.clause_core.specs.declared.reports.Outcome.TheVariants.{Proved, Refuted, Open}
use Rattle.clause_core.specs.declared.reports.Report.{Report}
use Rattle.acceptance.specs.Accepting.{values_in}
use Rattle.acceptance.specs.Claims.{IsGoalNamed}

-- a proved goal is true, under all values of its variables; a refuted one fails under these values,
-- which are of its variables' sorts; and nothing is said of an open one
abbrev pub OutcomeIsTrue : Spec → Goal → Outcome → Type 0
OutcomeIsTrue spec goal (Proved block) = GoalIsTrue spec goal
OutcomeIsTrue spec goal (Refuted index values) =
    AreValuesOf spec (sorts_of goal.vars) (values_in values)
    × GoalFails spec (values_in values) goal
OutcomeIsTrue spec goal (Open budget) = Unit {0}

-- the claim's goal is one of the specification's, and is as the claim says
abbrev pub ClaimIsTrue : Spec → Claim → Type 0
ClaimIsTrue spec claim =
    (goal : Goal) × IsGoalNamed spec claim.goal goal × OutcomeIsTrue spec goal claim.outcome

abbrev pub ReportIsTrue : Spec → Report → Type 0
ReportIsTrue spec report = AllByRecursion (ClaimIsTrue spec) report.claims
