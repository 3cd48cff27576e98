-- What `replay` writes for a report on an admitted specification.
use Rattle.std.specs.Prelude.{◌≡◌, ℕ, List, Option}
use Rattle.spec_core.specs.declared.records.Spec.{Spec}
use Rattle.clause_core.specs.declared.reports.Report.{Report}
use Rattle.reply_lines.specs.Lines.{yes_line}
use Rattle.file_replies.specs.Replies.{IsReply, IsFileReply, IsFileReplyText}
use Rattle.file_replies.specs.declared.statuses.Status.{Status}

-- if a report is accepted, `replay` says how many claims of each kind it has
abbrev pub IsYesLine : Spec → Report → List ℕ → Type 0
IsYesLine spec report text = text ≡ yes_line report.claims

abbrev pub IsReplay : Spec → List ℕ → List ℕ → Status → Type 0
IsReplay = IsReply IsYesLine

abbrev pub IsFileReplay : Spec → Option (List ℕ) → List ℕ → Status → Type 0
IsFileReplay = IsFileReply IsYesLine

abbrev pub IsFileReplayText : Spec → Option (List ℕ) → List ℕ → Type 0
IsFileReplayText = IsFileReplyText IsYesLine
