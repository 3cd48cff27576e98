use Rattle.sort_check.proofs.WellSortedSpecs.{stands_well_sorted}
use Rattle.sort_check.proofs.laws.well_sorted.Goals as goal

pub returns : goal.returns
returns c = stands_well_sorted
