-- The report with which explorations are compared.
use Rattle.std.specs.Prelude.{ℕ, List}
use Rattle.spec_core.specs.declared.records.Spec.{Spec}
use Rattle.clause_core.specs.declared.reports.Report.{Report}
use Rattle.proof_script.specs.Texts.{IsReportText}
use Rattle.command_line.specs.Usual.{usual_bounds}
use Rattle.file_replies.specs.declared.statuses.Status.{Status}
use Rattle.spike_cli.specs.Reports.{IsReport}

-- the text is what `spike prove` writes on the specification if no word gives it a number, and is that
-- of this report
pub record IsBase (spec : Spec) (text : List ℕ) (report : Report) : Type 0 where
  pub status : Status
  pub of_prove : IsReport usual_bounds spec text status
  pub is_text : IsReportText spec.sig text report
