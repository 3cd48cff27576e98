use Rattle.open_evaluation.proofs.ShiftedTerms.{closed-instance}
use Rattle.open_evaluation.proofs.laws.instances_are_closed.Goals as goal

pub returns : goal.returns
returns c k u xs t h = closed-instance k u xs t h
