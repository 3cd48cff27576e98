-- What `replay` answers for a report that `prove`, `refute`, `trim` or `session` finished.
use Rattle.std.specs.Prelude.{◌≡◌, ℕ, List, Some}
use Rattle.spec_core.specs.declared.records.Spec.{Spec}
use Rattle.spec_core.specs.WellSorted.{IsWellSorted}
use Rattle.clause_core.specs.declared.reports.Claim.{Claim}
use Rattle.clause_core.specs.declared.reports.Report.{Report}
use Rattle.command_line.specs.declared.bounds.ProofBounds.{ProofBounds}
use Rattle.file_replies.specs.declared.statuses.Status.{Status}
use Rattle.file_replies.specs.declared.statuses.Status.TheVariants.{Done}
use Rattle.spike_cli.specs.Replays.{IsFileReplay}
use Rattle.spike_cli.specs.Trims.{IsTrimmedText}
use Rattle.spike_cli.specs.Sessions.{IsRightReport}
use Rattle.proof_script.specs.Claims.{report_text}
use Rattle.reply_lines.specs.Lines.{yes_line}
use Rattle.spike_cli.specs.Reports.{IsReport}

-- a file of these bytes is answered by yes, with how many claims there are of each kind, and nothing
-- else is
pub record IsAnsweredByYes (spec : Spec) (bytes : List ℕ) : Type 0 where
  pub claims : List Claim
  pub answer : IsFileReplay spec (Some bytes) (yes_line claims) Done
  pub only :
      (text : List ℕ) (status : Status) → IsFileReplay spec (Some bytes) text status →
      (text ≡ yes_line claims) × (status ≡ Done)

-- each finished report is, on the same specification, and so is each that is trimmed or made by hand
pub record FinishedReportsAreAccepted : Type 0 where
  pub made :
      (bounds : ProofBounds) (spec : Spec) (text : List ℕ) (status : Status) →
      IsWellSorted spec → IsReport bounds spec text status → IsAnsweredByYes spec text
  pub trimmed :
      (spec : Spec) (report : Report) (text : List ℕ) →
      IsWellSorted spec → IsTrimmedText spec report text → IsAnsweredByYes spec text
  pub by_hand :
      (spec : Spec) (report : Report) →
      IsWellSorted spec → IsRightReport spec report → IsAnsweredByYes spec (report_text spec.sig report)
