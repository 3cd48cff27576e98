use Rattle.std.proofs.Common.{arith}
use Rattle.term_core.proofs.Trees.{weight-member}
use Rattle.generalized_clauses.proofs.parts.+add.Goals as goal

pub add_all-add_below-requires : goal.add_all-add_below-requires
add_all-add_below-requires t
    c = (
      omega (
        arith,
        weight-member c.args.terms.now c.loop-term.term-index c.term-item.result
            c.loop-term-test.true c.term-item.is,
      ),
      tt,
    )
