-- What is written for a report on an admitted specification, and the status with it.
use Rattle.std.specs.Prelude.{ℕ, List, Option, codes}
use Rattle.spec_core.specs.declared.records.Spec.{Spec}
use Rattle.spec_order.specs.Orders.{above_of}
use Rattle.clause_core.specs.declared.reports.ReplayWhy.{ReplayWhy}
use Rattle.clause_core.specs.declared.reports.Report.{Report}
use Rattle.proof_script.specs.Texts.{IsReportText}
use Rattle.proof_script.specs.Faults.{IsFaultyLine}
use Rattle.acceptance.specs.Accepting.{IsAccepted}
use Rattle.acceptance.specs.Refusals.{IsFirstRefusal}
use Rattle.soundness.specs.ReportTruth.{ReportIsTrue}
use Rattle.reply_lines.specs.Lines.{no_line, why_text}
use Rattle.file_replies.specs.declared.statuses.Status.{Status}
use Rattle.file_replies.specs.declared.statuses.Status.TheVariants as status
use Rattle.file_replies.specs.Reads.{most_report_bytes, AreBytesOf, IsLonger}

-- the line for a report that is too long
abbrev pub too_long_report_line : List ℕ
too_long_report_line = codes "refused report length\n"

-- of a command that is answered by yes with such a text if a report is accepted
module _ (IsYes : Spec → Report → List ℕ → Type 0) (spec : Spec) where
  -- what is written for the bytes of a report, and the status: they are a report that is accepted,
  -- and true; they are none; or they are one that isn't accepted
  pub data IsReply (bytes : List ℕ) : List ℕ → Status → Type 0 where
    accepted : (report : Report) {text : List ℕ} → IsReportText spec.sig bytes report
        → IsAccepted (above_of spec) spec report → ReportIsTrue spec report → IsYes spec report text
        → IsReply bytes text status.Done
    no_report : (line : ℕ) → IsFaultyLine spec.sig bytes line
        → IsReply bytes (no_line line (codes "not a report")) status.No
    refused : (report : Report) (line : ℕ) (why : ReplayWhy)
        → IsReportText spec.sig bytes report
        → IsFirstRefusal (above_of spec) spec report line why
        → IsReply bytes (no_line line (why_text why)) status.No

  -- the text alone
  abbrev pub IsReplyText : List ℕ → List ℕ → Type 0
  IsReplyText bytes text = (s : Status) × IsReply bytes text s

  -- what is written for the report of a file, and the status: that of its bytes, or the line if
  -- there are too many
  pub data IsFileReply (held : Option (List ℕ)) : List ℕ → Status → Type 0 where
    replied : (bytes : List ℕ) {text : List ℕ} {s : Status}
        → AreBytesOf held most_report_bytes bytes → IsReply bytes text s
        → IsFileReply held text s
    too_long_report : IsLonger held most_report_bytes
        → IsFileReply held too_long_report_line status.Refused

  abbrev pub IsFileReplyText : Option (List ℕ) → List ℕ → Type 0
  IsFileReplyText held text = (s : Status) × IsFileReply held text s
