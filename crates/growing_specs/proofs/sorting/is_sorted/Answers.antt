use Rattle.growing_specs.proofs.Equations.{same_sorts}
use Rattle.growing_specs.proofs.sorting.is_sorted.Goals as goal

pub returns-in-Some-Some : goal.returns-in-Some-Some
returns-in-Some-Some c =
    same_sorts c.args.sig.now c.args.ctx.now c.args.equation.now c.in-Some-Some.left c.in-Some-Some.right
    c.in-Some-Some.ensures c.in-Some-Some.ensures'
