-- What the functions answer.
use Rattle.std.specs.Prelude.{◌≡◌, ◌≤◌, ℕ, List, Option, Some, None, length}
use Rattle.spec_core.specs.declared.records.Spec.{Spec}
use Rattle.spec_grammar.specs.declared.raw.RawSpec.{RawSpec}
use Rattle.spec_grammar.specs.Limits.{file_limit}
use Rattle.spec_order.specs.Orders.{above_of, order_of}
use Rattle.clause_core.specs.declared.reports.Report.{Report}
use Rattle.accepted_spec.specs.declared.reading.Accepted.{Accepted}
use Rattle.accepted_spec.specs.Meanings.{IsAcceptedAs}
use Rattle.acceptance.specs.Accepting.{IsAccepted}
use Rattle.proof_script.specs.Texts.{IsReportText}
use Rattle.soundness.specs.ReportTruth.{ReportIsTrue}
use Rattle.explorations.specs.Explorations.{IsExploration, IsExplorationAs}
use Rattle.explorations.specs.Proved.{FurtherAreProved, StayProved}
use Rattle.explorations.specs.declared.checking.Exploration.{Exploration}

-- the text isn't too long for a file, and is accepted
pub record IsShortTextOf (text : List ℕ) (raw : RawSpec) (spec : Spec) : Type 0 where
  pub short : length text ≤ file_limit text
  pub accepted : IsAcceptedAs text raw spec

-- the specification that the text is accepted as, with its own order, or that it is too long or accepted
-- as none
abbrev pub AcceptsText : List ℕ → Option Accepted → Type 0
AcceptsText text None = (raw : RawSpec) (spec : Spec) → IsShortTextOf text raw spec → ⊥
AcceptsText text (Some a) =
    IsShortTextOf text a.raw a.admitted.spec × (a.admitted.order ≡ order_of a.admitted.spec)

-- the bytes are the text of this report, which is accepted
pub record IsAcceptedText (spec : Spec) (bytes : List ℕ) (report : Report) : Type 0 where
  pub is_report : IsReportText spec.sig bytes report
  pub replayed : IsAccepted (above_of spec) spec report

-- the accepted report, which is true, or that the bytes are the text of none
abbrev pub AcceptsReport : Spec → List ℕ → Option Report → Type 0
AcceptsReport spec bytes None = (report : Report) → IsAcceptedText spec bytes report → ⊥
AcceptsReport spec bytes (Some report) =
    IsAcceptedText spec bytes report × ReportIsTrue spec report

-- the report proves each further goal, and what the base report proves
pub record ProvesEnough (old : Spec) (base : Report) (new : Spec) (report : Report) : Type 0 where
  pub further : FurtherAreProved old.goals new.goals report.claims
  pub kept : StayProved base.claims report.claims

-- the texts are this exploration, which has its own order, or they are none
abbrev pub Checks : Spec → Report → List ℕ → List ℕ → Option Exploration → Type 0
Checks old base text report_text None = ¬ (IsExploration old base text report_text)
Checks old base text report_text (Some e) =
    (e.text.items ≡ text) × (e.report_text.items ≡ report_text)
    × (e.accepted.admitted.order ≡ order_of e.accepted.admitted.spec)
    × IsExplorationAs old base text e.accepted.raw e.accepted.admitted.spec report_text e.report
