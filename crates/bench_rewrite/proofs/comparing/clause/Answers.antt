use Rattle.std.proofs.Common.{refl}
use Rattle.bench_rewrite.proofs.SmallSides.{testable}
use Rattle.bench_rewrite.proofs.comparing.clause.Goals as goal

pub returns : goal.returns
returns c = testable _ (c.if-not-within.ensures.0 refl)
