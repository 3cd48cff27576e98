use Rattle.spike_cli.proofs.RunsTwice.{runs_replayed}
use Rattle.spike_cli.proofs.laws.finished_runs_are_replayed.Goals as goal

pub returns : goal.returns
returns c =
    runs_replayed c.one_ending.ensures c.one_request.ensures c.finished_reports_are_accepted.ensures
