use Rattle.open_evaluation.proofs.Extended.{value_kept, built_closed}
use Rattle.open_evaluation.proofs.laws.values_are_kept.Goals as goal

pub returns : goal.returns
returns c old new sorts more fine s v h =
    let kept = value_kept old new sorts more fine.signature s v h in
    (kept.0, kept.1, built_closed old new sorts more fine.signature v h.1)
