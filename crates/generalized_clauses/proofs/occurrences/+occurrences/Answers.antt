use Rattle.std.proofs.Common.{arith}
use Rattle.term_core.proofs.Trees.{weight-member}
use Rattle.generalized_clauses.proofs.occurrences.+occurrences.Goals as goal

pub add_below-add_term-requires : goal.add_below-add_term-requires
add_below-add_term-requires t
    c = (
      omega (
        arith,
        weight-member c.args.terms.now c.loop-term.term-index c.term-item.result
            c.loop-term-test.true c.term-item.is,
      ),
      tt,
    )
