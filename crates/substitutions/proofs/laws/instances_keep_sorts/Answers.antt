use Rattle.substitutions.proofs.Instances.{fitting_apply}
use Rattle.substitutions.proofs.laws.instances_keep_sorts.Goals as goal

pub returns : goal.returns
returns c sig from to entries t s fits p = fitting_apply sig from to entries t s fits p
