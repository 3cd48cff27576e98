use Rattle.open_evaluation.proofs.ClosedTerms.{closed_inj}
use Rattle.open_evaluation.proofs.laws.closing_is_injective.Goals as goal

pub returns : goal.returns
returns a c u t s below other same = closed_inj c u t s below other same
