use Rattle.open_evaluation.proofs.OpenInstances.{verdict_still}
use Rattle.open_evaluation.proofs.laws.open_verdicts_stay.Goals as goal

pub returns : goal.returns
returns c spec g xs zs ys budget r fine entries same says = verdict_still spec fine xs entries zs ys same budget
    g.premises g.conclusions r says
