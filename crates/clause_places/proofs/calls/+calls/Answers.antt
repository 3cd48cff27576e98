use Rattle.std.proofs.Common.{arith}
use Rattle.term_core.proofs.Trees.{weight-member}
use Rattle.clause_places.proofs.calls.+calls.Goals as goal

pub call_in_arguments-call_in-found-requires : goal.call_in_arguments-call_in-found-requires
call_in_arguments-call_in-found-requires t c =
    let lighter =
    weight-member c.args.arguments.now c.loop-argument.argument c.index-arguments-argument.result
    c.loop-argument-test.true c.index-arguments-argument.is in
    (omega (arith, lighter), tt)
