use Rattle.std.proofs.Common.{arith}
use Rattle.term_core.proofs.Trees.{weight-member}
use Rattle.generalized_clauses.proofs.parts.+calls.Goals as goal

pub some_calls-calls-requires : goal.some_calls-calls-requires
some_calls-calls-requires t
    c = (
      omega (
        arith,
        weight-member c.args.terms.now c.loop-term.term-index c.term-item.result
            c.loop-term-test.true c.term-item.is,
      ),
      tt,
    )
