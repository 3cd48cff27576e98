use Rattle.added_goals.proofs.SameMeaning.{keeps_meaning}
use Rattle.added_goals.proofs.laws.adding_keeps_meaning.Goals as goal

pub returns : goal.returns
returns c = keeps_meaning
