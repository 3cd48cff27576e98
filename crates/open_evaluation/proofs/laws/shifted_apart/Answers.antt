use Rattle.open_evaluation.proofs.ShiftedTerms.{shifted-inj}
use Rattle.open_evaluation.proofs.laws.shifted_apart.Goals as goal

pub returns : goal.returns
returns c k u s t e = shifted-inj k u s t e
