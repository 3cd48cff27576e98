use Rattle.spike_cli.proofs.OneSession.{one_session}
use Rattle.spike_cli.proofs.laws.one_session.Goals as goal

pub returns : goal.returns
returns c = one_session c.one_reading.ensures
