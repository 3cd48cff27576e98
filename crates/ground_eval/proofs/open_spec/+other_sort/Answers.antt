use Rattle.std.proofs.Common.{arith}
use Rattle.ground_eval.proofs.ConstantSorts.{other_more}
use Rattle.ground_eval.proofs.open_spec.+other_sort.Goals as goal

pub returns-else-var-ne0 : goal.returns-else-var-ne0
returns-else-var-ne0 t c = other_more c.in-Some.var.now c.in-Some.rest.now c.args.vars.now c.other_sort.result
    c.in-Some.ensures (omega (arith, c.if-var-ne0.false)) c.other_sort.ensures
