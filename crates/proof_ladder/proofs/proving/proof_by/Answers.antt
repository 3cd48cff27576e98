use Rattle.proof_ladder.proofs.PrintedProofs.{freer_if_ok, routine_if_ok}
use Rattle.proof_ladder.proofs.proving.proof_by.Goals as goal

pub returns-in-Routine : goal.returns-in-Routine
returns-in-Routine g c =
    let admitted = c.args.admitted.now in
    routine_if_ok (g.O.TermOrder.above admitted.order) admitted.spec c.args.lemmas.now c.args.goal
    _ c.proof_within.result c.proof_within.ensures.routine
    c.proof_within.ensures.accepted

pub returns-in-Freer : goal.returns-in-Freer
returns-in-Freer g c =
    let admitted = c.args.admitted.now in
    freer_if_ok (g.O.TermOrder.above admitted.order) admitted.spec c.args.lemmas.now c.args.goal
    _ c.freer.result c.freer.ensures.proof c.freer.ensures.accepted
