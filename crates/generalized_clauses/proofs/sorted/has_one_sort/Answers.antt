use Rattle.generalized_clauses.proofs.Equations.{same_sorts}
use Rattle.generalized_clauses.proofs.sorted.has_one_sort.Goals as goal

pub returns-in-Some-Some : goal.returns-in-Some-Some
returns-in-Some-Some c =
    same_sorts c.args.sig.now c.args.ctx.now c.args.equation.now c.in-Some-Some.one c.in-Some-Some.other
    c.in-Some-Some.ensures c.in-Some-Some.ensures'
