use Rattle.open_evaluation.proofs.Extended.{closed_sorted}
use Rattle.open_evaluation.proofs.laws.closed_are_sorted.Goals as goal

pub returns : goal.returns
returns c old new sorts more fine t s h = closed_sorted old new sorts more fine.signature t s h
