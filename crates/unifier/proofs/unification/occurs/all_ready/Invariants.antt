use Rattle.std.proofs.Common.{◌≡◌, ℕ, ◌<◌, true}
use Rattle.unifier.specs.Readiness.{is_ready}
use Rattle.unifier.proofs.unification.occurs.all_ready.Given as goal

abbrev pub invariant-loop-done : goal.invariant-loop-done
invariant-loop-done l = (k : ℕ) → k < l.done-index → is_ready l.ready k ≡ true
