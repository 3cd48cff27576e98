use Rattle.std.proofs.Common.{refl}
use Rattle.script_trim.specs.Keys.{stirred}
use Rattle.script_trim.proofs.keys.stir.Goals as goal

pub returns : goal.returns
unfolding stirred
returns c = refl
