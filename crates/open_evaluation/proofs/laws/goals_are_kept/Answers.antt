use Rattle.open_evaluation.proofs.ShiftedRules.{shifted_goal_sorted}
use Rattle.open_evaluation.proofs.laws.goals_are_kept.Goals as goal

pub returns : goal.returns
returns c old new sorts more fine goal h = shifted_goal_sorted old new sorts more fine.signature goal h
