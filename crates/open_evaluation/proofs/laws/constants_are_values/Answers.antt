use Rattle.open_evaluation.proofs.Extended.{constant_is_value}
use Rattle.open_evaluation.proofs.laws.constants_are_values.Goals as goal

pub returns : goal.returns
returns c old new sorts more fine n s at = constant_is_value old new sorts more fine.signature n s at
