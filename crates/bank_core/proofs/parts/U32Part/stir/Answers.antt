use Rattle.std.proofs.Common.{refl}
use Rattle.bank_core.specs.Hashing.{stirred_by}
use Rattle.bank_core.proofs.parts.U32Part.stir.Goals as goal

pub returns : goal.returns
unfolding stirred_by
returns c = refl
