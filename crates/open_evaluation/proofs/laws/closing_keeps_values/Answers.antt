use Rattle.open_evaluation.proofs.ClosedTerms.{value_stays}
use Rattle.open_evaluation.proofs.laws.closing_keeps_values.Goals as goal

pub returns : goal.returns
returns c sig u v built = value_stays sig u v built
