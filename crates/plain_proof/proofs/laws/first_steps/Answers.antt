use Rattle.plain_proof.proofs.CoverSteps.{first_steps}
use Rattle.plain_proof.proofs.laws.first_steps.Goals as goal

pub returns : goal.returns
returns g c = first_steps (g.O.TermOrder.above c.args.order.now)
