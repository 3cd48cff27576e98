use Rattle.sort_check.proofs.KeptSizes.{same_size}
use Rattle.sort_check.proofs.laws.sizes_are_kept.Goals as goal

pub returns : goal.returns
returns c = same_size
