use Rattle.ground_eval.proofs.GoalSides.{goal_verdict-unique}
use Rattle.ground_eval.proofs.laws.one_verdict.Goals as goal

pub returns : goal.returns
returns c spec goal k values budget p q fine apart whole at v a b = goal_verdict-unique spec fine apart whole
    values budget goal k at v p q a b
