use Rattle.spec_core.proofs.SmallValues.{small_least, one_small}
use Rattle.spec_core.proofs.laws.one_small_value.Goals as goal

pub returns : goal.returns
returns c sig s t u p q =
    let value = small_least sig t s p in
    (one_small sig t u s p q, value.0, value.1)
