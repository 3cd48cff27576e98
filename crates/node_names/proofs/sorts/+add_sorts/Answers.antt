use Rattle.std.proofs.Common.{arith}
use Rattle.term_core.proofs.Trees.{weight-member}
use Rattle.node_names.proofs.sorts.+add_sorts.Goals as goal

pub add_all_sorts-add_sorts-requires : goal.add_all_sorts-add_sorts-requires
add_all_sorts-add_sorts-requires t c = (
  omega (
    arith,
    weight-member c.args.patterns.now c.loop-place.place c.index-patterns-place.result
        c.loop-place-test.true c.index-patterns-place.is,
  ),
  tt,
)
