-- How far the text of a report was read, and which lines may come next.
use Rattle.std.specs.Prelude.{◌≡◌, ◌⊎◌, ◌≤◌, ◌<◌, ◌++◌, ◌∷◌, [], ℕ, List, codes, length, map}
use Rattle.std.specs.List.{AllByRecursion}
use Rattle.term_core.specs.Tree.{Tree}
use Rattle.spec_core.specs.Sig.{Sig}
use Rattle.clause_core.specs.declared.reports.Claim.{Claim}
use Rattle.clause_core.specs.declared.reports.Outcome.TheVariants as outcomes
use Rattle.clause_core.specs.declared.reports.Report.{Report}
use Rattle.clause_core.specs.declared.steps.Step.{Step}
use Rattle.proof_script.specs.Claims.{claim_text, claims_text, header_lines, last_line, value_line}
use Rattle.proof_script.specs.Reports.{ReportStands, ValueStands, most_steps}
use Rattle.proof_script.specs.Standing.{Between, StepStands}
use Rattle.proof_script.specs.Steps.{step_line}
use Rattle.proof_script.specs.Words.{Line, fixed, number, line_text, lines_text}
use Rattle.report_reader.specs.FirstLines.{FirstStands, line_of}
use Rattle.report_reader.specs.declared.first_lines.FirstLine.{FirstLine}
use Rattle.report_reader.specs.declared.first_lines.FirstLine.TheVariants.{Proved, Refuted, Open}

-- The lines before: none, the first one, or a report's without the last line, and then those of a
-- claim whose first line asks for this many steps or values.
pub data Stage : Type 0 where
  start : Stage
  titled : Stage
  between : Report → Stage
  proving : Report → List ℕ → ℕ → List Step → Stage
  refuting : Report → List ℕ → ℕ → ℕ → List (List ℕ × Tree) → Stage

-- the two lines that a report begins with
abbrev pub title_line : Line
title_line = record { head = codes "spike-report"; words = fixed (codes "1") ∷ [] }

abbrev pub steps_line : ℕ → Line
steps_line n = record { head = codes "steps"; words = number n ∷ [] }

-- the report with a further claim
abbrev pub with_claim : Report → Claim → Report
with_claim report claim =
    record { steps = report.steps; claims = report.claims ++ claim ∷ [] }

-- after the first line of a claim
abbrev pub behind_first : Report → FirstLine → Stage
behind_first report (Proved goal nodes) = proving report goal nodes []
behind_first report (Refuted goal index values) = refuting report goal index values []
behind_first report (Open goal budget) =
    between (with_claim report (record { goal = goal; outcome = outcomes.Open budget }))

-- the lines of the claim that isn't whole
abbrev pub part_lines : Stage → List Line
part_lines start = []
part_lines titled = []
part_lines (between report) = []
part_lines (proving report goal nodes steps) =
    line_of (Proved goal nodes) ∷ map step_line steps
part_lines (refuting report goal index count values) =
    line_of (Refuted goal index count) ∷ map value_line values

-- a further line is asked for
abbrev pub IsOpen : Stage → Type 0
IsOpen start = Unit {0}
IsOpen titled = Unit {0}
IsOpen (between report) = Unit {0}
IsOpen (proving report goal nodes steps) = length steps < nodes
IsOpen (refuting report goal index count values) = length values < count

module _ (sig : Sig) where
  -- the text of a report without its last line
  abbrev pub whole_text : Report → List ℕ
  whole_text report =
      lines_text sig (header_lines report.steps) ++ claims_text sig report.claims

  abbrev pub part_text : Stage → List ℕ
  part_text stage = lines_text sig (part_lines stage)

  abbrev pub stage_text : Stage → List ℕ
  stage_text start = []
  stage_text titled = line_text sig title_line
  stage_text (between report) = whole_text report
  stage_text (proving report goal nodes steps) =
      whole_text report ++ part_text (proving report goal nodes steps)
  stage_text (refuting report goal index count values) =
      whole_text report ++ part_text (refuting report goal index count values)

  -- how many bytes the text has before its last line
  abbrev pub report_size : Report → ℕ
  report_size report = length (whole_text report)

  -- each line of the report may appear, and no claim has too many bytes
  pub record IsSound (report : Report) : Type 0 where
    pub stands : ReportStands sig report
    pub small : AllByRecursion (λ claim. length (claim_text sig claim) ≤ 300000) report.claims

  -- what was read may appear
  abbrev pub StageStands : Stage → Type 0
  StageStands start = Unit {0}
  StageStands titled = Unit {0}
  StageStands (between report) = IsSound report
  StageStands (proving report goal nodes steps) =
      IsSound report × FirstStands (Proved goal nodes) × (length steps ≤ nodes)
      × AllByRecursion (StepStands sig) steps
  StageStands (refuting report goal index count values) =
      IsSound report × FirstStands (Refuted goal index count) × (length values ≤ count)
      × AllByRecursion (ValueStands sig) values

  -- this line may come next
  abbrev pub MayFollow : Stage → Line → Type 0
  MayFollow start line = line ≡ title_line
  MayFollow titled line = (n : ℕ) × Between 1 most_steps n × (line ≡ steps_line n)
  MayFollow (between report) line =
      (line ≡ last_line) ⊎ ((first : FirstLine) × FirstStands first × (line ≡ line_of first))
  MayFollow (proving report goal nodes steps) line =
      (step : Step) × StepStands sig step × (line ≡ step_line step)
  MayFollow (refuting report goal index count values) line =
      (value : List ℕ × Tree) × ValueStands sig value × (line ≡ value_line value)
