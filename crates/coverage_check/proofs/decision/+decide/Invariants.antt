use Rattle.std.proofs.Common.{ℕ, ◌+◌, ◌*◌, ◌<◌}
use Rattle.coverage_check.specs.Named.{IsSettled}
use Rattle.coverage_check.proofs.Symbols.{symbol_count}
use Rattle.coverage_check.proofs.decision.+decide.Given as goal

abbrev pub decreases-is_missing : goal.decreases-is_missing
decreases-is_missing l = 4 * symbol_count l.rows.now + 3

abbrev pub decreases-is_missing_by_first : goal.decreases-is_missing_by_first
decreases-is_missing_by_first l = 4 * symbol_count l.rows.now + 2

abbrev pub decreases-first_missing : goal.decreases-first_missing
decreases-first_missing l = 4 * symbol_count l.rows.now + 1

abbrev pub decreases-is_missing_under : goal.decreases-is_missing_under
decreases-is_missing_under l = 4 * symbol_count l.rows.now

abbrev pub invariant-first_missing-loop-number : goal.invariant-first_missing-loop-number
invariant-first_missing-loop-number l =
    (d : ℕ) → d < l.number → IsSettled l.sig l.rows l.sorts d
