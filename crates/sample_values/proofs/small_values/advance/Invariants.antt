use Rattle.std.proofs.Common.{◌≤◌, length}
use Rattle.sample_values.proofs.small_values.advance.Given as goal

abbrev pub invariant-loop-left : goal.invariant-loop-left
invariant-loop-left l = record {
  within : l.left ≤ length l.places;
  counted : l.left ≤ length l.counts;
}

abbrev pub decreases-loop-left : goal.decreases-loop-left
decreases-loop-left l = l.left
