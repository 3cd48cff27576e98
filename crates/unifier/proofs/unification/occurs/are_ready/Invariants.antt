use Rattle.std.proofs.Common.{◌≡◌, ℕ, ◌<◌, true}
use Rattle.std.specs.Prelude.{slice_index}
use Rattle.unifier.specs.Roots.{root}
use Rattle.unifier.specs.Readiness.{is_ready}
use Rattle.unifier.proofs.unification.occurs.are_ready.Given as goal

abbrev pub invariant-loop-node : goal.invariant-loop-node
invariant-loop-node l = (k : ℕ) → k < l.node-index → is_ready l.ready (root l.roots (slice_index l.node-items k)) ≡ true
