use Rattle.clause_core.proofs.OneStep.{one_answer}
use Rattle.routine_proof.proofs.OneProofs.{first_proof_one}
use Rattle.routine_proof.proofs.laws.one_proof.Goals as goal

pub returns : goal.returns
returns g c = λ o spec lemmas aim most a b fine p q.
    let above = g.O.TermOrder.above o in
    first_proof_one above (one_answer above) spec fine lemmas aim most a b p q
