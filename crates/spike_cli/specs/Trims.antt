-- What `trim` writes for a report on an admitted specification.
use Rattle.std.specs.Prelude.{◌≤◌, ℕ, List, Option, length}
use Rattle.spec_core.specs.declared.records.Spec.{Spec}
use Rattle.spec_order.specs.Orders.{above_of}
use Rattle.clause_core.specs.declared.reports.Report.{Report}
use Rattle.proof_script.specs.Texts.{IsReportText}
use Rattle.script_trim.specs.Trimmed.{LeadsTo, Trims}
use Rattle.soundness.specs.ReportTruth.{ReportIsTrue}
use Rattle.file_replies.specs.declared.statuses.Status.{Status}
use Rattle.file_replies.specs.Reads.{most_report_bytes}
use Rattle.file_replies.specs.Replies.{IsReply, IsFileReply, IsFileReplyText}

-- if a report is accepted, `trim` writes the text of the report to which cuts lead: it trims the
-- accepted one, is true, and isn't too long for `replay`
pub record IsTrimmedText (spec : Spec) (report : Report) (text : List ℕ) : Type 0 where
  pub trimmed : Report
  pub leads : LeadsTo (above_of spec) spec report trimmed
  pub trims : Trims (above_of spec) spec report trimmed
  pub true : ReportIsTrue spec trimmed
  pub stands : IsReportText spec.sig text trimmed
  pub short : length text ≤ most_report_bytes

abbrev pub IsTrim : Spec → List ℕ → List ℕ → Status → Type 0
IsTrim = IsReply IsTrimmedText

abbrev pub IsFileTrim : Spec → Option (List ℕ) → List ℕ → Status → Type 0
IsFileTrim = IsFileReply IsTrimmedText

abbrev pub IsFileTrimText : Spec → Option (List ℕ) → List ℕ → Type 0
IsFileTrimText = IsFileReplyText IsTrimmedText
