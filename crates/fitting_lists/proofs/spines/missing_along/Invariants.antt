-- As many are left of those that are asked for as of those that are there.
use Rattle.std.proofs.Common.{◌≡◌, ◌≤◌, ◌+◌, ◌-◌}
use Rattle.term_core.specs.Tree.{trees_of}
use Rattle.fitting_lists.specs.Spines.{last_run}
use Rattle.fitting_lists.proofs.spines.missing_along.Given as goal

abbrev pub invariant-along : goal.invariant-along
invariant-along l = record {
  fewer : l.left ≤ l.times;
  counts :
      (last_run l.symbol.0 (trees_of l.terms)).0
      ≡ (l.times - l.left) + (last_run l.symbol.0 (trees_of l.rest)).0;
}

abbrev pub decreases-along : goal.decreases-along
decreases-along l = l.left
