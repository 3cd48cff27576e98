use Rattle.std.proofs.Common.{refl}
use Rattle.file_replies.specs.Replies.{accepted, replied}
use Rattle.explore_cli.proofs.laws.reports_get_a_yes.Goals as goal

pub returns : goal.returns
returns c = λ spec text raw new report_text report e.
    replied report_text (record { told = refl; within = e.short })
    (accepted report e.is_exploration.is_report e.is_exploration.replayed e.is_exploration.true refl)
