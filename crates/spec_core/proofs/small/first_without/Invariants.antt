use Rattle.std.proofs.Common.{ℕ, ◌<◌}
use Rattle.spec_core.specs.Small.{HasSmallValue, sort_of_number}
use Rattle.spec_core.proofs.small.first_without.Given as goal

abbrev pub invariant-loop-sort : goal.invariant-loop-sort
invariant-loop-sort l = (n : ℕ) → n < l.sort → HasSmallValue l.tables (sort_of_number n)
