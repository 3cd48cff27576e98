use Rattle.open_evaluation.proofs.OpenInstances.{opens_under}
use Rattle.open_evaluation.proofs.laws.open_instances_give.Goals as goal

pub returns : goal.returns
returns c spec xs t v n fine entries gives = opens_under spec fine xs entries gives
