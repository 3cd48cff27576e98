use Rattle.clause_core.proofs.HeldTerms.{looked_up}
use Rattle.clause_core.proofs.clauses.Clause.term_at.Goals as goal

pub returns-in_err-equation : goal.returns-in_err-equation
returns-in_err-equation c = rw c.from_residual.ensures (λ p. c.in_err-equation.ensures p.at)

pub returns : goal.returns
returns c =
    looked_up c.args.self.now c.args.place.now c.in_ok-equation.equation.now c.in_ok-equation.ensures.0
    c.in_ok-equation.ensures.1
    c.as_slice.result.now c.side.result.now c.as_slice.ensures c.side.ensures c.at.result c.at.ensures
