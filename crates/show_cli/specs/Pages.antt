-- The page that a task asks for.
use Rattle.std.specs.Prelude.{ℕ, List, Option}
use Rattle.spec_core.specs.declared.records.Spec.{Spec}
use Rattle.clause_core.specs.declared.reports.Report.{Report}
use Rattle.page_core.specs.declared.parts.Format.{Format}
use Rattle.report_pages.specs.ReportPages.{IsReportPage}

-- the page of an accepted report: its title is the name of the file
abbrev pub IsPage : Format → List ℕ → Option (List ℕ) → Spec → Report → List ℕ → Type 0
IsPage form file goal spec report text = IsReportPage spec file goal report form text
