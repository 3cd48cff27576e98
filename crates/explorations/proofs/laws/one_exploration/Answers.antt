use Rattle.explorations.proofs.Decided.{one_exploration}
use Rattle.explorations.proofs.laws.one_exploration.Goals as goal

pub returns : goal.returns
returns c = one_exploration c.one_reading.ensures c.one_specification.ensures c.one_report.ensures
