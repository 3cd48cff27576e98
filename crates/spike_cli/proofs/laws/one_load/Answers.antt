use Rattle.spike_cli.proofs.OneLoad.{one_load}
use Rattle.spike_cli.proofs.laws.one_load.Goals as goal

pub returns : goal.returns
returns c = one_load
