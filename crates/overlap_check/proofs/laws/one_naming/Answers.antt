use Rattle.overlap_check.proofs.OneNaming.{one_naming}
use Rattle.overlap_check.proofs.laws.one_naming.Goals as goal

pub returns : goal.returns
returns c = one_naming
