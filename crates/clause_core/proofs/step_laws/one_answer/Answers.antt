use Rattle.clause_core.proofs.OneStep.{one_answer}
use Rattle.clause_core.proofs.step_laws.one_answer.Goals as goal

pub returns : goal.returns
returns g k = one_answer (g.O.TermOrder.above k.args.order.now)
