-- What `session` writes for a file of commands on an admitted specification.
use Rattle.std.specs.Prelude.{◌≡◌, ◌≤◌, ℕ, List, ◌++◌, Bool, true, false, Option, codes, length}
use Rattle.std.specs.Fmt.{decimal}
use Rattle.spec_core.specs.declared.records.Spec.{Spec}
use Rattle.spec_order.specs.Orders.{above_of}
use Rattle.clause_core.specs.declared.reports.Report.{Report}
use Rattle.proof_script.specs.Claims.{report_text}
use Rattle.proof_script.specs.Texts.{IsReportText}
use Rattle.acceptance.specs.Accepting.{IsAccepted}
use Rattle.soundness.specs.ReportTruth.{ReportIsTrue}
use Rattle.session_core.specs.declared.commands.Command.{Command}
use Rattle.session_core.specs.CommandText.{AreCommands, IsFaultyCommand}
use Rattle.session_core.specs.SessionText.{IsSessionText}
use Rattle.session_core.specs.Sound.{report_of}
use Rattle.file_replies.specs.declared.statuses.Status.{Status}
use Rattle.file_replies.specs.declared.statuses.Status.TheVariants as status
use Rattle.file_replies.specs.Reads.{most_report_bytes, AreBytesOf, IsLonger}

-- the most bytes of a text of commands
abbrev pub most_command_bytes : ℕ
most_command_bytes = 16777216

-- the line for commands that are too long, and for their first line that is at fault
abbrev pub too_long_commands_line : List ℕ
too_long_commands_line = codes "refused commands length\n"

abbrev pub faulty_command_line : ℕ → List ℕ
faulty_command_line line = codes "refused commands line " ++ (decimal line ++ codes "\n")

-- the status, by whether a goal is under work at the end
abbrev pub status_at_end : Bool → Status
status_at_end true = status.Open
status_at_end false = status.Done

-- the report is accepted, and true, and its text isn't too long for `replay`
pub record IsRightReport (spec : Spec) (report : Report) : Type 0 where
  pub accepted : IsAccepted (above_of spec) spec report
  pub true : ReportIsTrue spec report
  pub stands : IsReportText spec.sig (report_text spec.sig report) report
  pub short : length (report_text spec.sig report) ≤ most_report_bytes

module _ (spec : Spec) where
  -- what is written for the bytes of commands, and the status: they are carried out, and the report at
  -- the end is a right one; or a line of them is at fault
  pub data IsSession (bytes : List ℕ) : List ℕ → Status → Type 0 where
    carried_out : (commands : List Command) {text : List ℕ} {is_open : Bool}
        → AreCommands spec.sig bytes commands
        → (said : IsSessionText (above_of spec) spec commands text is_open)
        → IsRightReport spec (report_of 1000 said.state)
        → IsSession bytes text (status_at_end is_open)
    faulty : (line : ℕ) → IsFaultyCommand spec.sig bytes line
        → IsSession bytes (faulty_command_line line) status.Refused

  -- the text alone
  abbrev pub IsSomeSession : List ℕ → List ℕ → Type 0
  IsSomeSession bytes text = (s : Status) × IsSession bytes text s

  -- what is written for the commands of a file, and the status: that of its bytes, or the line if
  -- there are too many
  pub data IsFileSession (held : Option (List ℕ)) : List ℕ → Status → Type 0 where
    for_bytes : (bytes : List ℕ) {text : List ℕ} {s : Status}
        → AreBytesOf held most_command_bytes bytes → IsSession bytes text s
        → IsFileSession held text s
    too_long_commands : IsLonger held most_command_bytes
        → IsFileSession held too_long_commands_line status.Refused

  abbrev pub IsSomeFileSession : Option (List ℕ) → List ℕ → Type 0
  IsSomeFileSession held text = (s : Status) × IsFileSession held text s
