use Rattle.std.proofs.Common.{arith}
use Rattle.term_core.proofs.Trees.{weight-member}
use Rattle.generalized_clauses.proofs.abstracting.+abstracted.Goals as goal

pub abstracted_terms-abstracted_term-requires : goal.abstracted_terms-abstracted_term-requires
abstracted_terms-abstracted_term-requires t
    c = (
      omega (
        arith,
        weight-member c.args.terms.now c.loop-whole.whole-index c.whole-item.result
            c.loop-whole-test.true c.whole-item.is,
      ),
      tt,
    )
