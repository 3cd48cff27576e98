use Rattle.std.proofs.Common.{arith}
use Rattle.term_core.proofs.Trees.{weight-member}
use Rattle.node_names.proofs.occurring.+add.Goals as goal

pub add_all-add-requires : goal.add_all-add-requires
add_all-add-requires t
    c = (
      omega (
        arith,
        weight-member c.args.terms.now c.loop-term.term-index c.term-item.result
            c.loop-term-test.true c.term-item.is,
      ),
      tt,
    )
