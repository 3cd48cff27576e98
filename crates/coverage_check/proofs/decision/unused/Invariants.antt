use Rattle.std.proofs.Common.{ℕ, ◌<◌}
use Rattle.std.specs.List.{AllByRecursion}
use Rattle.coverage_check.specs.Decisions.{BeginsOtherwise, IsOf}
use Rattle.coverage_check.proofs.decision.unused.Given as goal

abbrev pub invariant-loop-number : goal.invariant-loop-number
invariant-loop-number l =
    (c : ℕ) → c < l.number → IsOf l.sig l.sort c → AllByRecursion (BeginsOtherwise c) l.rows → ⊥
