use Rattle.spike_cli.proofs.UpgradedRuns.{answer_the_same}
use Rattle.spike_cli.proofs.laws.upgraded_runs_answer_the_same.Goals as goal

pub returns : goal.returns
returns c =
    answer_the_same c.one_ending.ensures c.one_request.ensures c.one_replay.ensures
    c.upgrades_keep_meaning.ensures
