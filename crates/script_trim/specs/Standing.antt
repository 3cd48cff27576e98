-- A trimmed report has a text.
use Rattle.std.specs.Prelude.{ℕ, ◌+◌, ◌*◌, ◌≤◌, List, [], ◌∷◌, length}
use Rattle.std.specs.List.{AllByRecursion}
use Rattle.term_core.specs.Tree.{Tree}
use Rattle.spec_core.specs.declared.records.Goal.{Goal}
use Rattle.spec_core.specs.declared.records.Spec.{Spec}
use Rattle.spec_core.specs.Sig.{Sig}
use Rattle.spec_core.specs.WellSorted.{IsWellSorted}
use Rattle.clause_core.specs.declared.reports.Report.{Report}
use Rattle.acceptance.specs.Accepting.{IsAccepted}
use Rattle.proof_script.specs.Claims.{header_lines, last_line, report_text}
use Rattle.proof_script.specs.Names.{IsReportName}
use Rattle.proof_script.specs.Ranges.{ReportIsInRange}
use Rattle.proof_script.specs.Texts.{IsReportText}
use Rattle.proof_script.specs.Words.{lines_text}
use Rattle.script_trim.specs.Trimmed.{LeadsTo}

-- the report may be printed, what is printed is read as the report, and besides its first two lines and
-- its last one it has at most 300,000 bytes for each claim
pub record HasText (sig : Sig) (report : Report) : Type 0 where
  pub in_range : ReportIsInRange sig report
  pub text : IsReportText sig (report_text sig report) report
  pub short :
      length (report_text sig report)
      ≤ length (lines_text sig (header_lines report.steps)) + 300000 * length report.claims
      + length (lines_text sig (last_line ∷ []))

-- if the names of goals may appear in a report, an accepted report that has a text leads to one that
-- has a text
abbrev pub TrimmedReportsStand : (Tree → Tree → Type 0) → Type 0
TrimmedReportsStand above =
    (spec : Spec) (bytes : List ℕ) (old new : Report) →
    IsWellSorted spec → AllByRecursion (λ (goal : Goal). IsReportName goal.name) spec.goals →
    IsReportText spec.sig bytes old → IsAccepted above spec old → LeadsTo above spec old new →
    HasText spec.sig new
