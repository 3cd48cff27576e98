use Rattle.open_evaluation.proofs.Extended.{shifted_sorted}
use Rattle.open_evaluation.proofs.laws.sorts_are_kept.Goals as goal

pub returns : goal.returns
returns c old new sorts more fine ctx t s h = shifted_sorted old new sorts more fine.signature ctx t s h
