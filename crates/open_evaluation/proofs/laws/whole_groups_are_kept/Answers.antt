use Rattle.open_evaluation.proofs.Apart.{whole_still}
use Rattle.open_evaluation.proofs.laws.whole_groups_are_kept.Goals as goal

pub returns : goal.returns
returns c old new sorts more fine whole = whole_still old new sorts more fine whole
