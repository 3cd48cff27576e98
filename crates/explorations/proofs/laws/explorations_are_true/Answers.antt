use Rattle.explorations.proofs.TrueGoals.{all_true}
use Rattle.explorations.proofs.laws.explorations_are_true.Goals as goal

pub returns : goal.returns
returns c = all_true c.adding_keeps_meaning.ensures
