use Rattle.std.specs.Prelude.{Contains}
use Rattle.acceptance.specs.Claims.{ProvedBefore}
use Rattle.routine_proof.proofs.BehindClaims.{proves_more}
use Rattle.routine_proof.proofs.laws.proves_behind_claims.Goals as goal

pub returns : goal.returns
returns g c = λ spec lemmas before start steps may p.
    proves_more (g.O.TermOrder.above c.args.order.now) spec (Contains lemmas)
    (ProvedBefore spec before) may start steps p
