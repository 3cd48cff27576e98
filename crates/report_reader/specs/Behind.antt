-- The lines of a text that are left at a stage.
use Rattle.std.specs.Prelude.{◌≡◌, ◌⊎◌, ◌≤◌, ◌<◌, ◌+◌, ◌++◌, ℕ, List, length}
use Rattle.std.specs.List.{AllByRecursion}
use Rattle.spec_core.specs.Sig.{Sig}
use Rattle.proof_script.specs.Faults.{IsOneLine, whole_lines}
use Rattle.report_reader.specs.Lines.{IsLineAt, NoLineAt}
use Rattle.report_reader.specs.Stages.{Stage, StageStands, part_text, stage_text}
use Rattle.report_reader.specs.declared.errors.ReportError.{ReportError}
use Rattle.report_reader.specs.declared.errors.ReportError.TheVariants as errors
use Rattle.report_reader.specs.declared.lines.Lines.{Lines}

-- the lines of the text are read up to this stage
pub record IsBehind (sig : Sig) (text : List ℕ) (lines : Lines) (stage : Stage) : Type 0 where
  pub before : List (List ℕ)
  pub whole : text ≡ whole_lines before ++ lines.rest.now
  pub single : AllByRecursion IsOneLine before
  pub number : lines.number ≡ length before + 1
  pub is : whole_lines before ≡ stage_text sig stage
  pub read : lines.read ≡ length (stage_text sig stage)
  pub stands : StageStands sig stage
  pub small : length (part_text sig stage) ≤ 300000

-- there is no next line, or it has too many bytes for a claim that begins there, as the error says
pub record HasNoClaimLine (lines : Lines) (start : ℕ) (error : ReportError) : Type 0 where
  pub none : NoLineAt lines.rest.now
      ⊎ ((line rest : List ℕ) × IsLineAt lines.rest.now line rest
      × (start + 300000 < lines.read + (length line + 1)))
  pub named : error ≡ errors.Line lines.number
