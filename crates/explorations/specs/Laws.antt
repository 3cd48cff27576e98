-- Laws of explorations.
use Rattle.std.specs.Prelude.{◌≡◌, ◌≤◌, ℕ, List, Some, length, slice_get}
use Rattle.spec_core.specs.declared.records.Goal.{Goal}
use Rattle.spec_core.specs.declared.records.Spec.{Spec}
use Rattle.spec_core.specs.Truth.{GoalIsTrue}
use Rattle.spec_grammar.specs.declared.raw.RawSpec.{RawSpec}
use Rattle.spec_grammar.specs.Limits.{file_limit}
use Rattle.spec_order.specs.Orders.{above_of}
use Rattle.clause_core.specs.declared.reports.Claim.{Claim}
use Rattle.clause_core.specs.declared.reports.Report.{Report}
use Rattle.accepted_spec.specs.Meanings.{IsAcceptedAs}
use Rattle.acceptance.specs.Accepting.{IsAccepted}
use Rattle.acceptance.specs.Claims.{IsProvedBy}
use Rattle.proof_script.specs.Texts.{IsReportText}
use Rattle.soundness.specs.ReportTruth.{ReportIsTrue}
use Rattle.explorations.specs.Explorations.{IsExplorationAs}

-- each of these goals that the claims prove is true of the specification
abbrev pub ProvedAreTrue : Spec → List Goal → List Claim → Type 0
ProvedAreTrue spec goals claims =
    (number : ℕ) (goal : Goal) → slice_get goals number ≡ Some goal → IsProvedBy goal.name claims
    → GoalIsTrue spec goal

-- the goals that the report of an exploration proves, old and further ones, are true of the old
-- specification
abbrev pub ExplorationsAreTrue : Type 0
ExplorationsAreTrue =
    (old : Spec) (base : Report) (text report_text : List ℕ)
    (raw : RawSpec) (new : Spec) (report : Report)
    → IsExplorationAs old base text raw new report_text report
    → ProvedAreTrue old old.goals report.claims × ProvedAreTrue old new.goals report.claims

-- an accepted text and the base report, if this is accepted, are an exploration that adds nothing
abbrev pub NothingAdded : Type 0
NothingAdded =
    (text report_text : List ℕ) (raw : RawSpec) (spec : Spec) (base : Report)
    → length text ≤ file_limit text → IsAcceptedAs text raw spec
    → IsReportText spec.sig report_text base → IsAccepted (above_of spec) spec base
    → ReportIsTrue spec base
    → IsExplorationAs spec base text raw spec report_text base

-- two texts are an exploration in one way at most
abbrev pub OneExploration : Type 0
OneExploration =
    (old : Spec) (base : Report) (text report_text : List ℕ)
    (raw again : RawSpec) (new other : Spec) (report second : Report)
    → IsExplorationAs old base text raw new report_text report
    → IsExplorationAs old base text again other report_text second
    → (raw ≡ again) × (new ≡ other) × (report ≡ second)
