use Rattle.open_evaluation.proofs.Apart.{apart_still}
use Rattle.open_evaluation.proofs.laws.no_overlap_is_kept.Goals as goal

pub returns : goal.returns
returns c old new sorts more fine in_range apart = apart_still old new sorts more fine in_range apart
