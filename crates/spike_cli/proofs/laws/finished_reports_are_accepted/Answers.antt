use Rattle.spike_cli.proofs.FinishedReports.{finished_accepted}
use Rattle.spike_cli.proofs.laws.finished_reports_are_accepted.Goals as goal

pub returns : goal.returns
returns c = finished_accepted c.one_replay.ensures
