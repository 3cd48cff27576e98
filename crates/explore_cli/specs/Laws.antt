-- What the definitions lead to.
use Rattle.std.specs.Prelude.{ℕ, List, Some}
use Rattle.spec_core.specs.declared.records.Spec.{Spec}
use Rattle.spec_grammar.specs.declared.raw.RawSpec.{RawSpec}
use Rattle.clause_core.specs.declared.reports.Report.{Report}
use Rattle.reply_lines.specs.Lines.{yes_line}
use Rattle.file_replies.specs.declared.statuses.Status.TheVariants.{Done}
use Rattle.spike_cli.specs.Replays.{IsFileReplay}
use Rattle.explore_cli.specs.Written.{Explores}

-- a file of the report of an exploration is answered by yes on the text's specification
abbrev pub ReportsGetAYes : Type 0
ReportsGetAYes =
    (spec : Spec) (text : List ℕ) (raw : RawSpec) (new : Spec) (report_text : List ℕ) (report : Report)
    → Explores spec text raw new report_text report
    → IsFileReplay new (Some report_text) (yes_line report.claims) Done
