use Rattle.std.proofs.Common.{arith, rules}
use Rattle.term_core.proofs.Trees.{weight-member}
use Rattle.open_goals.proofs.near.+gap.Goals as goal

pub gap_in_terms-gap_in_term-requires : goal.gap_in_terms-gap_in_term-requires
gap_in_terms-gap_in_term-requires g t c = λ lives outlives.
    let lighter =
    weight-member c.args.terms.now c.loop-term.term-index c.term-item.result
    c.loop-term-test.true c.term-item.is in
    (omega (arith, lighter), search (rules, outlives))
