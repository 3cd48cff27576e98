use Rattle.std.proofs.Common.{length}
use Rattle.rule_code.proofs.symbols.+symbol_below.Given as goal

abbrev pub decreases-symbol_below : goal.decreases-symbol_below
decreases-symbol_below l = length l.below.now
