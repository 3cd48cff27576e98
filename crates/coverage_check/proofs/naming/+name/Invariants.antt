use Rattle.std.proofs.Common.{◌+◌, ◌*◌, length}
use Rattle.coverage_check.proofs.Symbols.{symbol_count}
use Rattle.coverage_check.proofs.NamedValues.{work}
use Rattle.coverage_check.proofs.naming.+name.Given as goal

abbrev pub decreases-name : goal.decreases-name
decreases-name l = 2 * work l.sig.now (symbol_count l.rows.now) (length l.sorts.now) + 1

abbrev pub decreases-name_under_first : goal.decreases-name_under_first
decreases-name_under_first l = 2 * work l.sig.now (symbol_count l.rows.now) (length l.sorts.now)
