use Rattle.term_cases.proofs.SmallSides.{testable}
use Rattle.term_cases.proofs.clause_cases.compared.Goals as goal

pub compare-requires-clause-first : goal.compare-requires-clause-first
compare-requires-clause-first c = testable c.args.one.now (c.within.ensures.0 c.if-not-within.false)

pub compare-requires-clause-second : goal.compare-requires-clause-second
compare-requires-clause-second c = testable c.args.other.now
    (c.within-else-not-within.ensures.0 c.if-not-within-2.false)
