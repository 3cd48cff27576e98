use Rattle.spec_grammar.proofs.KeepsLimits.{keeps_limits, term_keeps_limits}
use Rattle.spec_grammar.proofs.laws.within_limits.Goals as goal

pub returns : goal.returns
returns c = record { spec = keeps_limits; term = term_keeps_limits }
