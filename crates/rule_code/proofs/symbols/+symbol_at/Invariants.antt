use Rattle.std.proofs.Common.{length}
use Rattle.rule_code.proofs.symbols.+symbol_at.Given as goal

abbrev pub decreases-symbol_at : goal.decreases-symbol_at
decreases-symbol_at l = length l.below.now
