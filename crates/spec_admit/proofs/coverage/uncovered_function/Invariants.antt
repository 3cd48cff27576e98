use Rattle.std.proofs.Common.{ℕ, ◌<◌, ◌≤◌}
use Rattle.spec_admit.specs.Tests.{FunctionIsCovered}
use Rattle.spec_admit.proofs.coverage.uncovered_function.Given as goal

abbrev pub invariant-loop-number : goal.invariant-loop-number
invariant-loop-number l =
    (f : ℕ) → l.spec.sig.constructors ≤ f → f < l.number → FunctionIsCovered l.spec f
