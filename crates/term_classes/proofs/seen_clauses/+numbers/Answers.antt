-- A term has less weight than the list that it is in.
use Rattle.std.proofs.Common.{arith}
use Rattle.term_core.proofs.Trees.{weight-member}
use Rattle.term_classes.proofs.seen_clauses.+numbers.Goals as goal

pub add_terms-add_term-requires : goal.add_terms-add_term-requires
add_terms-add_term-requires t c =
    let index = c.loop-term.term-index in
    let term = c.term-item.result in
    let lighter = weight-member c.args.terms.now index term c.loop-term-test.true c.term-item.is in
    (omega (arith, lighter), tt)
