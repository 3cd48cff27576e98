use Rattle.std.proofs.Common.{ℕ, ◌<◌}
use Rattle.spec_core.specs.Linear.{OccursTwice}
use Rattle.overlap_check.proofs.linearity.least_repeated.Given as goal

abbrev pub invariant-loop-number : goal.invariant-loop-number
invariant-loop-number l = (n : ℕ) → n < l.number → OccursTwice n l.term → ⊥
