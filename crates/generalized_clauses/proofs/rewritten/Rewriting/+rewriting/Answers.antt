use Rattle.std.proofs.Common.{arith}
use Rattle.term_core.proofs.Trees.{weight-member}
use Rattle.generalized_clauses.proofs.rewritten.Rewriting.+rewriting.Goals as goal

pub applications-terms-requires : goal.applications-terms-requires
applications-terms-requires t c = (
  omega (
    arith,
    weight-member c.args.args.now c.loop-index.index c.index-args-index.result
        c.loop-index-test.true c.index-args-index.is,
  ),
  tt,
)
