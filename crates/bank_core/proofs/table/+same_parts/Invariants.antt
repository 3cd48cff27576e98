use Rattle.std.proofs.Common.{length}
use Rattle.bank_core.proofs.table.+same_parts.Given as goal

abbrev pub decreases-same_parts : goal.decreases-same_parts
decreases-same_parts g l = length l.xs.now
