use Rattle.spec_core.proofs.Determined.{determined}
use Rattle.spec_core.proofs.laws.one_value.Goals as goal

pub returns : goal.returns
returns c spec t v w n m s fine apart whole p a b = determined spec fine apart whole a s p b
