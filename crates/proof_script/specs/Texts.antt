-- The bytes that are a report's text.
use Rattle.std.specs.Prelude.{◌≡◌, ◌-◌, ◌≤◌, ℕ, List, [], ◌∷◌, ◌++◌, map, take, length}
use Rattle.spec_core.specs.Sig.{Sig}
use Rattle.clause_core.specs.declared.reports.Report.{Report}
use Rattle.proof_script.specs.Words.{lines_text}
use Rattle.proof_script.specs.Claims.{claim_text, header_lines, report_text}
use Rattle.proof_script.specs.Reports.{ReportStands}

-- of texts one after the other, the first bytes of this number hold at most 300,000 of
-- each
abbrev pub IsFew : ℕ → List (List ℕ) → Type 0
IsFew n [] = Unit {0}
IsFew n (text ∷ texts) = (length (take n text) ≤ 300000) × IsFew (n - length text) texts

-- up to this number of bytes of a report's text no claim has too many bytes
abbrev pub ClaimsAreFew : Sig → ℕ → Report → Type 0
ClaimsAreFew sig n report =
    IsFew (n - length (lines_text sig (header_lines report.steps)))
    (map (claim_text sig) report.claims)

-- The bytes begin the report's text, each line of which may appear, and up to their end no claim has
-- too many bytes.
pub record Begins (sig : Sig) (bytes : List ℕ) (report : Report) : Type 0 where
  pub stands : ReportStands sig report
  pub more : List ℕ
  pub is : report_text sig report ≡ bytes ++ more
  pub few : ClaimsAreFew sig (length bytes) report

-- The bytes are the report's text.
pub record IsReportText (sig : Sig) (bytes : List ℕ) (report : Report) : Type 0 where
  pub stands : ReportStands sig report
  pub is : bytes ≡ report_text sig report
  pub few : ClaimsAreFew sig (length bytes) report
