-- The symbols so far and those from the rest on are all.
use Rattle.std.proofs.Common.{◌≡◌, ◌<◌, ◌^◌}
use Rattle.term_core.specs.Tree.{trees_of}
use Rattle.term_core.specs.Measure.{list_weight}
use Rattle.fitting_lists.specs.Spines.{one_more, last_run, spine_from}
use Rattle.fitting_lists.proofs.FittingSpines.{counted}
use Rattle.fitting_lists.proofs.spines.spine_below.Given as goal

abbrev pub invariant-along : goal.invariant-along
invariant-along l = record {
  in_range : l.length < 2 ^ 32;
  counts :
      spine_from l.symbol.0 (counted l.length (last_run l.symbol.0 (trees_of l.rest)))
      ≡ spine_from l.symbol.0 (one_more (last_run l.symbol.0 (trees_of l.arguments)));
}

abbrev pub decreases-along : goal.decreases-along
decreases-along l = list_weight l.rest
