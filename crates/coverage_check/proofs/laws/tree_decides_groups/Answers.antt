use Rattle.coverage_check.proofs.LeftSideGroups.{taken, decided}
use Rattle.coverage_check.proofs.laws.tree_decides_groups.Goals as goal

pub returns : goal.returns
returns c spec left = (taken spec left, decided spec left)
