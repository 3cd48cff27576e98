use Rattle.routine_proof.proofs.OneProofs.{routine_one}
use Rattle.routine_proof.proofs.laws.one_block.Goals as goal

pub returns : goal.returns
returns g c = λ spec lemmas root start a b fine p q.
    routine_one (g.O.TermOrder.above c.args.order.now) c.one_answer.ensures spec fine lemmas
    root start a b p q
