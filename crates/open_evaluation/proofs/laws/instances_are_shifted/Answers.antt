use Rattle.open_evaluation.proofs.ShiftedTerms.{shifted-instance}
use Rattle.open_evaluation.proofs.laws.instances_are_shifted.Goals as goal

pub returns : goal.returns
returns c k u xs t = shifted-instance k u xs t
