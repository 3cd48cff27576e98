use Rattle.std.proofs.Common.{ℕ, ◌<◌}
use Rattle.overlap_check.specs.Overlaps.{Overlaps}
use Rattle.overlap_check.proofs.overlaps.overlap.Given as goal

abbrev pub invariant-loop-place : goal.invariant-loop-place
invariant-loop-place l = (j k : ℕ) → j < l.place → j < k → Overlaps l.spec j k → ⊥
