-- What may be written for a specification and a report on it, in place of its text and that report.
use Rattle.std.specs.Prelude.{ℕ, ◌≤◌, List, length}
use Rattle.spec_core.specs.declared.records.Spec.{Spec}
use Rattle.spec_grammar.specs.declared.raw.RawSpec.{RawSpec}
use Rattle.spec_grammar.specs.Limits.{file_limit}
use Rattle.spec_order.specs.Orders.{above_of}
use Rattle.clause_core.specs.declared.reports.Report.{Report}
use Rattle.accepted_spec.specs.Meanings.{IsAcceptedAs}
use Rattle.acceptance.specs.Accepting.{IsAccepted}
use Rattle.proof_script.specs.Texts.{IsReportText}
use Rattle.soundness.specs.ReportTruth.{ReportIsTrue}
use Rattle.added_goals.specs.Additions.{AddsGoals}
use Rattle.explorations.specs.Proved.{FurtherAreProved, StayProved}

module _ (old : Spec) (base : Report) where
  -- the text, which isn't too long for a file, is accepted as the old specification with further goals;
  -- the other text is a report on it, which is accepted and true; each further goal is proved in this
  -- report, and so is each goal that the base report proves
  pub record IsExplorationAs (text : List ℕ) (raw : RawSpec) (new : Spec)
      (report_text : List ℕ) (report : Report) : Type 0 where
    pub short : length text ≤ file_limit text
    pub accepted : IsAcceptedAs text raw new
    pub adds : AddsGoals old new
    pub is_report : IsReportText new.sig report_text report
    pub replayed : IsAccepted (above_of new) new report
    pub true : ReportIsTrue new report
    pub further : FurtherAreProved old.goals new.goals report.claims
    pub kept : StayProved base.claims report.claims

  -- the two texts are those of an exploration
  abbrev pub IsExploration : List ℕ → List ℕ → Type 0
  IsExploration text report_text =
      (raw : RawSpec) × (new : Spec) × (report : Report)
      × IsExplorationAs text raw new report_text report
